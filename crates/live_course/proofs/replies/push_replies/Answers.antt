use Rattle.std.proofs.Common.{ap, arith}
use Rattle.live_course.specs.Lines.{desk_lines}
use Rattle.live_course.proofs.LineSteps.{replies_more}
use Rattle.live_course.proofs.replies.push_replies.Goals as goal

pub loop-index-preserved : goal.loop-index-preserved
loop-index-preserved c =
    replies_more c.loop-index.index c.args.desks.now c.loop-index.index _
    c.index-desks-index.result c.push_desk.new.out _ c.loop-index-test.true (omega arith)
    c.index-desks-index.is c.args.out.now c.loop-index.out c.loop-index.invariant
    (ap (desk_lines c.loop-index.index 1) c.as_slice.ensures) c.in_ok-push_desk.ensures
