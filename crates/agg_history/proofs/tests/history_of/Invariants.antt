use Rattle.std.proofs.Common.{◌≡◌}
use Rattle.agg_history.proofs.tests.history_of.Given as goal

abbrev pub invariant-loop-row : goal.invariant-loop-row
invariant-loop-row g l = l.rows.lanes ≡ 1
