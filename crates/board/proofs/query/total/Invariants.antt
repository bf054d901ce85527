use Rattle.std.proofs.Common.{◌≡◌, take}
use Rattle.run_model.specs.Rows.{lane_total}
use Rattle.run_model.proofs.LaneSums.{IsSumOf}
use Rattle.board.proofs.query.total.Given as goal

abbrev pub invariant-loop-vertex : goal.invariant-loop-vertex
invariant-loop-vertex l = record {
  sum : l.total ≡ lane_total l.lane (take l.vertex l.places.values);
  bound : IsSumOf l.vertex l.total;
}
