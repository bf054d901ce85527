use Rattle.std.proofs.Common.{◌≡◌, ◌++◌, take}
use Rattle.live_course.specs.Lines.{entry_lines}
use Rattle.live_course.proofs.entries.push_entries.Given as goal

abbrev pub invariant-loop-index : goal.invariant-loop-index
invariant-loop-index l = l.out ≡ l.initial.out ++ entry_lines 1 (take l.index l.made)
