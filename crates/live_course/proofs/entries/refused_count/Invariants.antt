use Rattle.std.proofs.Common.{◌≡◌, take}
use Rattle.live_course.specs.Made.{refused_count}
use Rattle.live_course.proofs.entries.refused_count.Given as goal

abbrev pub invariant-loop-entry : goal.invariant-loop-entry
invariant-loop-entry l = l.count ≡ refused_count (take l.entry-index l.made)
