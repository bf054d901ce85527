use Rattle.std.proofs.Common.{ap, sym, ◌∙◌, arith, rules, Fits, w32}
use Rattle.bolt_base.specs.Graph.{outdeg}
use Rattle.adjacency.specs.State.{State}
use Rattle.adjacency.proofs.PlainLemmas.{outdeg_row}
use Rattle.adjacency.proofs.graph.reads.RowGraphAdjacency.out_degree.Goals as goal

pub overflow_cast-result : goal.overflow_cast-result
overflow_cast-result g c =
    let narrow : Fits w32 c.self.inside.limits.degree = search rules in
    let few = c.self.invariant.good.out_degrees c.args.u in
    let row = outdeg_row c.self.inside.attrs.items c.self.inside.out c.args.u in
    let read = c.degree.ensures in
    omega arith

pub returns : goal.returns
returns g c =
    c.degree.ensures
    ∙ sym (outdeg_row c.self.inside.attrs.items c.self.inside.out c.args.u)
    ∙ ap (λ (s : State). outdeg s.now c.args.u) c.self.view_is
