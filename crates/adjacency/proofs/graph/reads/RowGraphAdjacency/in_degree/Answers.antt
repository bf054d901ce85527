use Rattle.std.proofs.Common.{ap, sym, ◌∙◌, arith, rules, Fits, w32, length}
use Rattle.bolt_base.specs.Graph.{indeg}
use Rattle.adjacency.specs.State.{State}
use Rattle.adjacency.proofs.PlainLemmas.{indeg_row}
use Rattle.adjacency.proofs.graph.reads.RowGraphAdjacency.in_degree.Goals as goal

pub overflow_cast-result : goal.overflow_cast-result
overflow_cast-result g c =
    let narrow : Fits w32 c.self.inside.limits.degree = search rules in
    let few = c.self.invariant.good.in_degrees c.args.v in
    let row = indeg_row c.self.inside.attrs.items (length c.self.inside.attrs.items)
    c.self.inside.out c.self.inside.into c.self.invariant.mirrored c.args.v in
    let read = c.degree.ensures in
    omega arith

pub returns : goal.returns
returns g c =
    c.degree.ensures
    ∙ sym (indeg_row c.self.inside.attrs.items (length c.self.inside.attrs.items) c.self.inside.out
    c.self.inside.into c.self.invariant.mirrored c.args.v)
    ∙ ap (λ (s : State). indeg s.now c.args.v) c.self.view_is
