use Rattle.std.proofs.Common.{ap, sym, ◌∙◌, ◌≡◌, Some, rules, FitsSigned, w64, to_z, of_z}
use Rattle.std.proofs.lemmas.Int.{to_z-of_z}
use Rattle.bolt_base.specs.EdgeAt.{edge_at, with_weight}
use Rattle.adjacency.specs.State.{State}
use Rattle.adjacency.proofs.PlainLemmas.{edge_in_row}
use Rattle.adjacency.proofs.graph.RowGraph.edge_of.Goals as goal

pub returns-in-Some : goal.returns-in-Some
returns-in-Some g c =
    let fields = c.self.inside in
    let same : to_z w64 (of_z w64 c.in-Some.weight)
    ≡ c.in-Some.weight = (let f : FitsSigned w64 c.in-Some.weight = search rules in to_z-of_z
    w64 c.in-Some.weight f) in
    ap (λ w. with_weight c.args.u c.args.v (Some w)) same
    ∙ ap (with_weight c.args.u c.args.v) (sym c.in-Some.is ∙ c.weight.ensures)
    ∙ sym (edge_in_row fields.attrs.items fields.out c.args.u c.args.v)
    ∙ ap (λ (s : State). edge_at s.now c.args.u c.args.v) c.self.view_is

pub returns-in-None : goal.returns-in-None
returns-in-None g c =
    let fields = c.self.inside in
    ap (with_weight c.args.u c.args.v) (sym c.in-None.is ∙ c.weight.ensures)
    ∙ sym (edge_in_row fields.attrs.items fields.out c.args.u c.args.v)
    ∙ ap (λ (s : State). edge_at s.now c.args.u c.args.v) c.self.view_is
