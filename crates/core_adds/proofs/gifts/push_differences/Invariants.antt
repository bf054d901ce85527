use Rattle.std.proofs.Common.{◌≡◌, ◌++◌, map}
use Rattle.std.specs.List.{range_with_len}
use Rattle.core_adds.specs.Differences.{difference}
use Rattle.core_adds.proofs.gifts.push_differences.Given as goal

abbrev pub invariant-loop-lane : goal.invariant-loop-lane
invariant-loop-lane l = l.list
    ≡ l.initial.list ++ map (difference l.dst l.now l.was) (range_with_len 0 l.lane)
