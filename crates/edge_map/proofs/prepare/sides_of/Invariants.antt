use Rattle.std.proofs.Common.{◌≡◌, ◌<◌, ◌-◌, ◌≤◌, ℕ, length, drop, get_or}
use Rattle.edge_map.specs.Walks.{from_source}
use Rattle.edge_map.specs.Plans.{AreSides}
use Rattle.edge_map.specs.declared.tasks.Sides.{Sides}
use Rattle.edge_map.proofs.prepare.sides_of.Given as goal

abbrev pub invariant-loop-k : goal.invariant-loop-k
invariant-loop-k l =
    (length l.sides.items ≡ l.k)
    × ((k : ℕ) (d : Sides) → k < l.k → AreSides l.program l.tasks k (get_or l.sides.items k d))
    × (l.next ≤ length l.added)
    × (drop l.next l.added ≡ from_source (l.k - 1) l.added)
