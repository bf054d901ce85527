use Rattle.range_check.specs.Laws.{span_at}
use Rattle.report_text.specs.Programs.{span_line}
use Rattle.report_text.proofs.Ranges.{text_more}
use Rattle.report_text.proofs.programs.push_part.Goals as goal
use Rattle.vertex_expr.specs.ProgramBounds.{spans_in}

pub loop-lane-preserved : goal.loop-lane-preserved
loop-lane-preserved c =
    text_more
    (λ lane. span_line c.args.part lane (span_at (spans_in c.args.accepted.now c.args.part) lane))
    c.loop-lane.lane c.args.out.now c.loop-lane.out c.push_span.new.out c.loop-lane.invariant
    c.in_ok-push_span.ensures
