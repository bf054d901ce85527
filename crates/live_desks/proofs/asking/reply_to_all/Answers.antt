use Rattle.std.proofs.Common.{rules, ◌∙◌, ◌+◌, ◌++◌, ◌∷◌, [], List, Option, length, take, get_or}
use Rattle.std.proofs.Common.{sym, subst}
use Rattle.board.specs.declared.desk.Reply.{Reply}
use Rattle.board.specs.declared.kinds.Origin.{Origin}
use Rattle.board.specs.declared.query.Query.TheVariants.{Value}
use Rattle.live_text.specs.declared.question.Question.{Question}
use Rattle.live_text.specs.declared.question.Question.TheVariants.{Ask}
use Rattle.live_course.specs.Replied.{IsReplyTo}
use Rattle.live_desks.specs.Asked.{HaveReplies}
use Rattle.live_desks.specs.Shown.{answer_at}
use Rattle.live_desks.proofs.Replying.{reply_more}
use Rattle.live_desks.proofs.asking.reply_to_all.Goals as goal

pub loop-question-preserved : goal.loop-question-preserved
loop-question-preserved g c =
    let inv = c.loop-question.invariant in
    let o = c.args.desk.now.origin in
    let new = c.reply_to.new.desk.seen in
    let qs = c.args.questions.now in
    let k = c.loop-question.question-index in
    let question : Question = get_or qs k (Ask (Value 0)) in
    let rs = c.loop-question.replies.items in
    let r = c.reply_to.result in
    let is : IsReplyTo (answer_at o new) (length new) question r =
    subst (λ (x : Origin). IsReplyTo (answer_at x new) (length new) question r) inv.1
    c.reply_to.ensures.reply in
    let all : HaveReplies o new (take (k + 1) qs) (rs ++ r ∷ []) =
    reply_more o c.loop-question.desk.seen new qs k (Ask (Value 0)) rs r c.loop-question-test.true
    inv.4 c.reply_to.ensures.later is c.reply_to.ensures.newest in (
      c.reply_to.ensures.board.0 ∙ inv.0,
      c.reply_to.ensures.board.1 ∙ inv.1,
      search rules,
      search rules,
      subst (λ (l : List (Option Reply)). HaveReplies o new (take (k + 1) qs) l)
          (sym c.push_reserved.ensures.items) all,
    )
