use Rattle.std.proofs.Common.{◌≡◌, take}
use Rattle.live_course.specs.Made.{accepted_count}
use Rattle.live_course.proofs.entries.accepted_count.Given as goal

abbrev pub invariant-loop-entry : goal.invariant-loop-entry
invariant-loop-entry l = l.count ≡ accepted_count (take l.entry-index l.made)
