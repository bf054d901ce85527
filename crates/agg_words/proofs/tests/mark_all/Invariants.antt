use Rattle.std.proofs.Common.{◌≡◌, ◌≤◌}
use Rattle.agg_words.proofs.tests.mark_all.Given as goal

abbrev pub invariant-loop-bit : goal.invariant-loop-bit
invariant-loop-bit l = (l.clear ≤ l.bit) × (l.seat.table ≡ l.initial.seat.table)
    × (l.seat.view.units ≡ l.initial.seat.view.units)
