use Rattle.std.proofs.Common.{◌<◌, ◌≤◌, ◌-◌, length, take}
use Rattle.std.specs.List.{All}
use Rattle.adj_pages.proofs.pages.patches.cut_at.Given as goal

abbrev pub invariant-loop-at : goal.invariant-loop-at
invariant-loop-at l = record {
  later : l.from ≤ l.at;
  within : l.at ≤ length l.edits;
  passed : All (λ e. e.0 < l.end) (take l.at l.edits);
}

abbrev pub decreases-loop-at : goal.decreases-loop-at
decreases-loop-at l = length l.edits - l.at
