use Rattle.std.proofs.Common.{◌∙◌, arith, sym, subst}
use Rattle.live_text.specs.Lines.{IsTotal}
use Rattle.live_course.specs.declared.made.DeskReplies.{DeskReplies}
use Rattle.live_course.proofs.LineSteps.{last_is, lasts_more}
use Rattle.live_course.proofs.replies.push_lasts.Goals as goal

pub loop-index-preserved : goal.loop-index-preserved
loop-index-preserved c =
    let x : DeskReplies = c.index-desks-index.result in
    let total : IsTotal x.last.body =
    subst (λ (d : DeskReplies). IsTotal d.last.body) (sym c.index-desks-index.is)
    (c.requires.totals c.loop-index.index x c.loop-index-test.true) in
    lasts_more c.loop-index.index c.args.desks.now c.loop-index.index _ x
    c.extend_from_slice.new.self c.as_slice.result.now c.loop-index-test.true (omega arith)
    c.index-desks-index.is c.args.out.now c.loop-index.out c.loop-index.invariant
    (c.as_slice.ensures
    ∙ last_is c.loop-index.index x.last.prefix x.last.body _ total c.in_ok-line.ensures)
    c.in_ok-extend_from_slice.ensures.ok
