use Rattle.std.proofs.Common.{◌≡◌, take}
use Rattle.run_model.specs.Rows.{lane_total}
use Rattle.run_model.proofs.LaneSums.{IsSumOf}
use Rattle.core_rows.proofs.questions.total.Given as goal

abbrev pub invariant-loop-value : goal.invariant-loop-value
invariant-loop-value l = record {
  sum : l.total ≡ lane_total l.lane (take l.value-index l.values);
  bound : IsSumOf l.value-index l.total;
}
