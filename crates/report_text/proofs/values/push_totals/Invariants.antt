use Rattle.std.proofs.Common.{◌≡◌, ◌++◌}
use Rattle.std.specs.List.{range_with_len, flat_map}
use Rattle.run_model.specs.Rows.{lane_total}
use Rattle.report_text.specs.Values.{total_line}
use Rattle.report_text.proofs.values.push_totals.Given as goal

abbrev pub invariant-loop-lane : goal.invariant-loop-lane
invariant-loop-lane g l =
    l.out ≡ l.initial.out
    ++ flat_map (λ lane. total_line lane (lane_total lane (g.V.ValueRow.values l.row)))
    (range_with_len 0 l.lane)
