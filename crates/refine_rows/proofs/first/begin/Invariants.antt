use Rattle.std.proofs.Common.{◌≡◌, length}
use Rattle.refine_rows.specs.Progress.{vertices_put, IsRefinedWithin}
use Rattle.refine_rows.proofs.first.begin.Given as goal

abbrev pub invariant-loop-v : goal.invariant-loop-v
invariant-loop-v g l = record {
  within : IsRefinedWithin l.program g.O.OldGraph.graph (g.A.Adjacency.plain l.graph)
      l.history l.overlay 0;
  count : length (vertices_put l.overlay 0) ≡ l.v-index;
}
