use Rattle.std.proofs.Common.{◌≡◌, filter, take}
use Rattle.bolt_base.specs.LawsOfChange.{edge_stays}
use Rattle.core_adds.proofs.changes.stayed_of.Given as goal

abbrev pub invariant-loop-e : goal.invariant-loop-e
invariant-loop-e g l = l.stayed.items
    ≡ filter (edge_stays (g.A.Adjacency.plain l.old) (g.A.Adjacency.plain l.new))
    (take l.e-index l.edges)
