use Rattle.std.proofs.Common.{◌≡◌, ◌+◌, ◌-◌, ◌*◌, length}
use Rattle.bolt_base.specs.Graph.{edges}
use Rattle.run_model.specs.Rows.{row}
use Rattle.sync_engine.proofs.run.last_values.Given as goal

abbrev pub invariant-loop-i : goal.invariant-loop-i
invariant-loop-i g l = record {
  vals : l.vals.items ≡ row l.program (g.A.Adjacency.plain l.graph) l.i;
  count : g.M.Meter.counted l.meter
      ≡ g.M.Meter.counted l.initial.meter + (l.i - l.cut) * length
      (edges (g.A.Adjacency.plain l.graph));
  units : g.M.Meter.held l.meter ≡ g.M.Meter.held l.initial.meter;
}
