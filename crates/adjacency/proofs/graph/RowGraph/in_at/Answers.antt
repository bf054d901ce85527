use Rattle.std.proofs.Common.{ℤ, ap, sym, ◌∙◌, ◌≡◌, arith, length, slice_get, Some, rules}
use Rattle.std.proofs.Common.{FitsSigned, w64, to_z, of_z}
use Rattle.std.proofs.lemmas.Int.{to_z-of_z}
use Rattle.bolt_base.specs.Graph.{indeg, in_edges}
use Rattle.bolt_base.specs.declared.edge.Edge.{Edge}
use Rattle.adjacency.specs.State.{State}
use Rattle.adjacency.proofs.PlainLemmas.{indeg_row, in_edge_at}
use Rattle.adjacency.proofs.graph.RowGraph.in_at.Goals as goal

pub arc-src-requires : goal.arc-src-requires
arc-src-requires g c =
    let fields = c.self.inside in
    let degree = ap (λ (s : State). indeg s.now c.args.v) c.self.view_is in
    let row = indeg_row fields.attrs.items (length fields.attrs.items) fields.out fields.into
    c.self.invariant.mirrored c.args.v in
    let below = c.requires in
    omega arith

pub returns : goal.returns
returns g c =
    let fields = c.self.inside in
    let same : to_z w64 (of_z w64 c.arc-src.result.1)
    ≡ c.arc-src.result.1 = (let f : FitsSigned w64 c.arc-src.result.1 = search rules in
    to_z-of_z w64 c.arc-src.result.1 f) in
    let edge_of : ℤ → Edge = λ w. record { src = c.arc-src.result.0; dst = c.args.v; weight = w } in
    ap (λ (s : State). slice_get (in_edges s.now c.args.v) c.args.k) (sym c.self.view_is)
    ∙ in_edge_at fields.attrs.items (length fields.attrs.items) fields.out fields.into
    c.self.invariant.mirrored c.args.v c.args.k c.arc-src.result c.arc-src.ensures
    ∙ ap (λ w. Some (edge_of w)) (sym same)
