use Rattle.std.proofs.Common.{◌≡◌, length}
use Rattle.swaps.specs.Swaps.{undo, AreInside}
use Rattle.swaps.proofs.put_back.Given as goal

abbrev pub invariant-loop-place : goal.invariant-loop-place
invariant-loop-place g l = record {
  same : undo l.items.items l.all.items ≡ undo l.initial.items.items l.initial.all.items;
  inside : AreInside (length l.all.items) l.items.items;
  size : length l.all.items ≡ length l.initial.all.items;
}

abbrev pub decreases-loop-place : goal.decreases-loop-place
decreases-loop-place g l = length l.items.items
