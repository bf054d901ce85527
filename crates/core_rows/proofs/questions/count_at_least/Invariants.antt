use Rattle.std.proofs.Common.{◌≡◌, ◌≤◌, take}
use Rattle.board.specs.Queries.{at_least}
use Rattle.core_rows.proofs.questions.count_at_least.Given as goal

abbrev pub invariant-loop-value : goal.invariant-loop-value
invariant-loop-value l = record {
  count : l.count ≡ at_least l.lane l.least (take l.value-index l.values);
  few : l.count ≤ l.value-index;
}
