use Rattle.std.proofs.Common.{◌≡◌, ◌≤◌, length, take}
use Rattle.std.specs.Prelude.{vec_capacity, vec_len}
use Rattle.live_desks.specs.Asked.{HaveReplies}
use Rattle.live_desks.proofs.asking.reply_to_all.Given as goal

abbrev pub invariant-loop-question : goal.invariant-loop-question
invariant-loop-question g l =
    (l.desk.book ≡ l.initial.desk.book)
    × (l.desk.origin ≡ l.initial.desk.origin)
    × (vec_len l.replies ≡ l.question-index)
    × (length l.questions ≤ vec_capacity l.replies)
    × HaveReplies l.initial.desk.origin l.desk.seen (take l.question-index l.questions)
    l.replies.items
