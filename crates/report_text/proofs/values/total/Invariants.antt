use Rattle.std.proofs.Common.{◌≡◌, take}
use Rattle.run_model.specs.Rows.{lane_total}
use Rattle.run_model.proofs.LaneSums.{IsSumOf}
use Rattle.report_text.proofs.values.total.Given as goal

abbrev pub invariant-loop-v : goal.invariant-loop-v
invariant-loop-v g l = record {
  sum : l.total ≡ lane_total l.lane (take l.v (g.V.ValueRow.values l.row));
  bound : IsSumOf l.v l.total;
}
