use Rattle.std.proofs.Common.{◌≡◌, length}
use Rattle.refine_rows.specs.Progress.{IsRefinedWithin, vertices_put}
use Rattle.pull_reeval.proofs.putting.put_all.Given as goal

abbrev pub invariant-loop-k : goal.invariant-loop-k
invariant-loop-k g l = record {
  within : IsRefinedWithin l.program g.O.OldGraph.graph (g.A.Adjacency.plain l.graph)
      l.history l.overlay l.i;
  count : length (vertices_put l.overlay l.i) ≡ l.k;
}
