use Rattle.std.proofs.Common.{◌≡◌, ◌++◌, take}
use Rattle.live_course.specs.Lines.{last_lines}
use Rattle.live_course.proofs.replies.push_lasts.Given as goal

abbrev pub invariant-loop-index : goal.invariant-loop-index
invariant-loop-index l = l.out ≡ l.initial.out ++ last_lines 0 (take l.index l.desks)
