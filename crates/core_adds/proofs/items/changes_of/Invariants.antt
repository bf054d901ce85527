use Rattle.std.proofs.Common.{◌≡◌, take}
use Rattle.core_adds.specs.Sides.{change_adds, seen}
use Rattle.core_adds.proofs.items.changes_of.Given as goal

abbrev pub invariant-loop-e : goal.invariant-loop-e
invariant-loop-e g l = l.list ≡ change_adds l.program
    (seen (g.A.Adjacency.plain l.old) (g.A.Adjacency.plain l.new) l.was l.now)
    (take l.e-index l.edges) l.u
