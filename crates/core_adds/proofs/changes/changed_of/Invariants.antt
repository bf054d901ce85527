use Rattle.std.proofs.Common.{◌≡◌, not, filter, take}
use Rattle.bolt_base.specs.LawsOfChange.{edge_stays}
use Rattle.core_adds.proofs.changes.changed_of.Given as goal

abbrev pub invariant-loop-e : goal.invariant-loop-e
invariant-loop-e g l = l.changed.items
    ≡ filter (λ e. not (edge_stays (g.A.Adjacency.plain l.old) (g.A.Adjacency.plain l.new) e))
    (take l.e-index l.edges)
