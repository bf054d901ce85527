use Rattle.std.proofs.Common.{ℤ, ap, sym, ◌∙◌, ◌≡◌, arith, slice_get, Some, rules, FitsSigned, w64}
use Rattle.std.proofs.Common.{to_z, of_z}
use Rattle.std.proofs.lemmas.Int.{to_z-of_z}
use Rattle.bolt_base.specs.Graph.{outdeg, out_edges}
use Rattle.bolt_base.specs.declared.edge.Edge.{Edge}
use Rattle.adjacency.specs.State.{State}
use Rattle.adjacency.proofs.PlainLemmas.{outdeg_row, out_edge_at}
use Rattle.adjacency.proofs.graph.RowGraph.out_at.Goals as goal

pub arc-dst-requires : goal.arc-dst-requires
arc-dst-requires g c =
    let fields = c.self.inside in
    let degree = ap (λ (s : State). outdeg s.now c.args.u) c.self.view_is in
    let row = outdeg_row fields.attrs.items fields.out c.args.u in
    let below = c.requires in
    omega arith

pub returns : goal.returns
returns g c =
    let fields = c.self.inside in
    let same : to_z w64 (of_z w64 c.arc-dst.result.1)
    ≡ c.arc-dst.result.1 = (let f : FitsSigned w64 c.arc-dst.result.1 = search rules in
    to_z-of_z w64 c.arc-dst.result.1 f) in
    let edge_of : ℤ → Edge = λ w. record { src = c.args.u; dst = c.arc-dst.result.0; weight = w } in
    ap (λ (s : State). slice_get (out_edges s.now c.args.u) c.args.k) (sym c.self.view_is)
    ∙ out_edge_at fields.attrs.items fields.out c.args.u c.args.k c.arc-dst.result c.arc-dst.ensures
    ∙ ap (λ w. Some (edge_of w)) (sym same)
