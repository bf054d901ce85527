use Rattle.std.proofs.Common.{ap, sym, ◌∙◌, length}
use Rattle.bolt_base.specs.Graph.{edges}
use Rattle.adjacency.specs.PlainOf.{plain_of}
use Rattle.adjacency.specs.State.{State}
use Rattle.bolt_base.proofs.BareGraphs.{edge_count}
use Rattle.adjacency.proofs.graph.reads.RowGraphAdjacency.edges.Goals as goal

pub returns : goal.returns
returns g c = c.self.invariant.count
    ∙ sym (edge_count (plain_of c.self.inside.attrs.items c.self.inside.out))
    ∙ ap (λ (s : State). length (edges s.now)) c.self.view_is
