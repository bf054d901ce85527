use Rattle.std.proofs.Common.{◌∙◌, ◌+◌, ap, arith}
use Rattle.std.specs.Prelude.{Option}
use Rattle.board.specs.declared.desk.Reply.{Reply}
use Rattle.live_text.specs.Lines.{reply_line}
use Rattle.live_course.proofs.LineSteps.{desk_more}
use Rattle.live_course.proofs.replies.push_desk.Goals as goal

pub loop-index-preserved : goal.loop-index-preserved
loop-index-preserved c =
    let r : Option Reply = c.index-replies-index.result in
    desk_more c.args.desk (c.loop-index.index + 1) c.args.replies.now c.loop-index.index _ r
    c.extend_from_slice.new.self c.as_slice.result.now c.loop-index-test.true (omega arith)
    c.index-replies-index.is c.args.out.now c.loop-index.out c.loop-index.invariant
    (c.as_slice.ensures ∙ c.in_ok-line.ensures
    ∙ ap (λ o. reply_line c.args.desk (c.loop-index.index + 1) o) c.as_ref.ensures.value)
    c.in_ok-extend_from_slice.ensures.ok
