use Rattle.std.proofs.Common.{take}
use Rattle.pull_targets.specs.EndList.{AreFound}
use Rattle.pull_targets.specs.Ends.{ends_at}
use Rattle.pull_targets.proofs.ends.find_ends.Given as goal

abbrev pub invariant-loop-e : goal.invariant-loop-e
invariant-loop-e l = AreFound l.initial.found (ends_at (take l.e-index l.edges)) l.found
