use Rattle.std.proofs.Common.{◌≡◌, ◌++◌, take}
use Rattle.live_course.specs.Lines.{desk_lines}
use Rattle.live_course.proofs.replies.push_desk.Given as goal

abbrev pub invariant-loop-index : goal.invariant-loop-index
invariant-loop-index l = l.out ≡ l.initial.out ++ desk_lines l.desk 1 (take l.index l.replies)
