use Rattle.std.proofs.Common.{◌≡◌, ◌<◌, ◌≤◌, ◌-◌, length, take}
use Rattle.std.specs.List.{All}
use Rattle.std.specs.FinMap as finite
use Rattle.adj_pages.specs.Index.{joined}
use Rattle.adj_pages.proofs.page.cut.Given as goal

abbrev pub invariant-loop-from : goal.invariant-loop-from
invariant-loop-from l = record {
  within : l.from ≤ length l.arcs;
  whole : joined l.pages.items ≡ take l.from l.arcs;
  some : All (λ p. 0 < finite.len p) l.pages.items;
}

abbrev pub decreases-loop-from : goal.decreases-loop-from
decreases-loop-from l = length l.arcs - l.from
