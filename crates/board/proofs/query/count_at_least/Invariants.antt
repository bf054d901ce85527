use Rattle.std.proofs.Common.{◌≡◌, ◌≤◌, take}
use Rattle.board.specs.Queries.{at_least}
use Rattle.board.proofs.query.count_at_least.Given as goal

abbrev pub invariant-loop-vertex : goal.invariant-loop-vertex
invariant-loop-vertex l = record {
  count : l.count ≡ at_least l.lane l.least (take l.vertex l.places.values);
  few : l.count ≤ l.vertex;
}
