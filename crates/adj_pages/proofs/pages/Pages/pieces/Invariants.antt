use Rattle.std.proofs.Common.{◌≡◌, ◌<◌, ◌++◌, take}
use Rattle.std.specs.List.{All}
use Rattle.std.specs.FinMap as finite
use Rattle.adj_pages.specs.Index.{joined, marked}
use Rattle.adj_pages.specs.Marked.{marks}
use Rattle.adj_pages.proofs.pages.Pages.pieces.Given as goal

abbrev pub invariant-loop-i : goal.invariant-loop-i
invariant-loop-i g l = record {
  whole : joined l.done.items ++ finite.entries l.last
      ≡ marked (take l.i (marks g.P.Page.arcs l.self-inside.index.items));
  some : All (λ p. 0 < finite.len p) l.done.items;
}
