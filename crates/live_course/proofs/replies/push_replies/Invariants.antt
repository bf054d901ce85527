use Rattle.std.proofs.Common.{◌≡◌, ◌++◌, take}
use Rattle.live_course.specs.Lines.{reply_lines}
use Rattle.live_course.proofs.replies.push_replies.Given as goal

abbrev pub invariant-loop-index : goal.invariant-loop-index
invariant-loop-index l = l.out ≡ l.initial.out ++ reply_lines 0 (take l.index l.desks)
