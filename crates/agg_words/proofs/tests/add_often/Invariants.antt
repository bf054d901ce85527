use Rattle.std.proofs.Common.{◌≡◌}
use Rattle.agg_words.proofs.tests.add_often.Given as goal

abbrev pub invariant-loop : goal.invariant-loop
invariant-loop l = (l.seat.table ≡ l.initial.seat.table)
    × (l.seat.view.units ≡ l.initial.seat.view.units)
