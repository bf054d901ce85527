use Rattle.std.specs.FinMap as finite
use Rattle.adj_pages.specs.Marked.{marks}
use Rattle.adj_pages.proofs.EditedLemmas.{IsDone}
use Rattle.adj_pages.proofs.pages.Pages.patched.Given as goal

abbrev pub invariant-loop-i : goal.invariant-loop-i
invariant-loop-i g l = IsDone (marks g.P.Page.arcs l.self-inside.index.items) l.edits l.i l.from
    (finite.entries l.made)
