use Rattle.std.proofs.Common.{rules, ◌∙◌, ◌++◌, ℤ, FitsSigned, ap}
use Rattle.std.specs.Int.{w128}
use Rattle.std.proofs.lemmas.Int.{to_z-of_z}
use Rattle.run_model.specs.Rows.{lane_total}
use Rattle.report_text.specs.Values.{total_line}
use Rattle.report_text.proofs.Ranges.{text_more}
use Rattle.report_text.proofs.values.push_totals.Goals as goal

pub loop-lane-preserved : goal.loop-lane-preserved
loop-lane-preserved g c =
    let fits : FitsSigned w128 c.total.result = search rules in
    text_more (λ lane. total_line lane (lane_total lane (g.V.ValueRow.values c.args.row.now)))
    c.loop-lane.lane c.args.out.now c.loop-lane.out c.push_total.new.out c.loop-lane.invariant
    (c.in_ok-push_total.ensures
    ∙ ap (λ (x : ℤ). c.loop-lane.out ++ total_line c.loop-lane.lane x)
    (to_z-of_z w128 c.total.result fits ∙ c.total.ensures))
