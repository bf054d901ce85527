use Rattle.std.proofs.Common.{◌≡◌, length}
use Rattle.swaps.proofs.SwapLemmas.{IsSwapped}
use Rattle.swaps.proofs.swap_in.Given as goal

abbrev pub invariant-loop-i : goal.invariant-loop-i
invariant-loop-i g l = record {
  swapped : IsSwapped l.i l.all.items l.items.items l.initial.all.items l.initial.items.items;
  count : l.count ≡ length l.initial.items.items;
}
