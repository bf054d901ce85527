use Rattle.std.proofs.Common.{◌≡◌, ◌+◌}
use Rattle.vertex_steps.proofs.Pulls.{so_far}
use Rattle.vertex_steps.proofs.pulling.pull.Given as goal

abbrev pub invariant-loop-k : goal.invariant-loop-k
invariant-loop-k g l = record {
  totals : l.totals ≡ so_far l.program (g.A.Adjacency.plain l.graph) (g.V.ValueRow.values l.row)
      l.v l.k;
  count : g.M.Meter.counted l.meter ≡ g.M.Meter.counted l.initial.meter + l.k;
  units : g.M.Meter.held l.meter ≡ g.M.Meter.held l.initial.meter;
}
