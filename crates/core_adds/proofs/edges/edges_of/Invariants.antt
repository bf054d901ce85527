use Rattle.std.proofs.Common.{◌≡◌, filter}
use Rattle.std.specs.Prelude.{nat_lt}
use Rattle.bolt_base.specs.Graph.{edges}
use Rattle.core_adds.proofs.edges.edges_of.Given as goal

abbrev pub invariant-loop-u : goal.invariant-loop-u
invariant-loop-u g l = l.es.items
    ≡ filter (λ e. nat_lt e.src l.u) (edges (g.A.Adjacency.plain l.graph))
