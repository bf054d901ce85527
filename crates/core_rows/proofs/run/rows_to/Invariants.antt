use Rattle.std.proofs.Common.{◌≡◌, map}
use Rattle.std.specs.List.{range_with_len}
use Rattle.run_model.specs.Rows.{entries}
use Rattle.core_rows.proofs.run.rows_to.Given as goal

abbrev pub invariant-loop-i : goal.invariant-loop-i
invariant-loop-i g l = record {
  rows : l.rows ≡ map (entries l.program (g.A.Adjacency.plain l.graph)) (range_with_len 0 l._i);
  row : l.row ≡ entries l.program (g.A.Adjacency.plain l.graph) l._i;
}
