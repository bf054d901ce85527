use Rattle.std.proofs.Common.{◌≡◌, ◌≤◌, length, take}
use Rattle.std.specs.Prelude.{vec_capacity, vec_len}
use Rattle.live_course.specs.Replied.{AllReplied}
use Rattle.live_desks.specs.Shown.{edits_of}
use Rattle.live_desks.proofs.last.last_replies.Given as goal

abbrev pub invariant-loop-one : goal.invariant-loop-one
invariant-loop-one g l =
    (l.publisher ≡ l.initial.publisher)
    × (vec_len l.all ≡ length l.yielded)
    × (length l.questions ≤ vec_capacity l.all)
    × AllReplied l.initial.publisher.origin.program l.initial.publisher.origin.graph
    (edits_of l.initial.publisher.log) (take (length l.yielded) l.questions) l.all.items
