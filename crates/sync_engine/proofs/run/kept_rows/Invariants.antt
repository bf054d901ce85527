use Rattle.std.proofs.Common.{◌≡◌, ◌+◌, ◌*◌, length}
use Rattle.bolt_base.specs.Graph.{vertices, edges}
use Rattle.run_model.specs.Program.{lanes}
use Rattle.run_model.specs.Rows.{row, rows_to}
use Rattle.sync_engine.proofs.run.kept_rows.Given as goal

abbrev pub invariant-loop-i : goal.invariant-loop-i
invariant-loop-i g l = record {
  vals : l.vals.items ≡ row l.program (g.A.Adjacency.plain l.graph) l.i;
  rows : l.rows ≡ record {
    vertices = vertices (g.A.Adjacency.plain l.graph);
    lanes = lanes l.program;
    rows = rows_to l.program (g.A.Adjacency.plain l.graph) l.i;
  };
  count : g.M.Meter.counted l.meter
      ≡ g.M.Meter.counted l.initial.meter + l.i * length (edges (g.A.Adjacency.plain l.graph));
  units : g.M.Meter.held l.meter ≡ g.M.Meter.held l.initial.meter;
}
