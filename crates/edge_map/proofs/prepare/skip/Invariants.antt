use Rattle.std.proofs.Common.{◌≡◌, ◌-◌, ◌≤◌, length, drop}
use Rattle.edge_map.specs.Walks.{from_source}
use Rattle.edge_map.proofs.prepare.skip.Given as goal

abbrev pub invariant-loop-at : goal.invariant-loop-at
invariant-loop-at l = (l.at ≤ length l.added)
    × (from_source l.place (drop l.at l.added) ≡ from_source l.place (drop l.next l.added))

abbrev pub decreases-loop-at : goal.decreases-loop-at
decreases-loop-at l = length l.added - l.at
