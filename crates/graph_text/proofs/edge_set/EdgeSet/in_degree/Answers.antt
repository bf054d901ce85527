use Rattle.std.proofs.Common.{◌≤◌, ◌∙◌, List, ℕ, length, get_or, ap, sym, subst}
use Rattle.std.proofs.lemmas.Bool.{ltb-true, ltb-false}
use Rattle.std.proofs.lemmas.List.{get_or_past, get_or_default}
use Rattle.graph_text.proofs.IndexLemmas.{in_counted}
use Rattle.graph_text.proofs.edge_set.EdgeSet.in_degree.Goals as goal

pub returns-in-Some : goal.returns-in-Some
returns-in-Some c =
    c.in-Some.ensures.lookup.1 ∙ get_or_default c.deref.result.now c.args.vertex _ 0
    (ltb-true _ _ (sym c.in-Some.ensures.lookup.0))
    ∙ ap (λ (counts : List ℕ). get_or counts c.args.vertex 0) c.deref.ensures.value
    ∙ in_counted c.self.inside.edges.items c.self.inside.rows.items c.self.inside.in_degrees.items
    c.args.self.now c.self.invariant c.self.view_is c.args.vertex

pub returns-in-None : goal.returns-in-None
returns-in-None c =
    let past : length c.self.inside.in_degrees.items ≤ c.args.vertex =
    subst (λ (xs : List ℕ). length xs ≤ c.args.vertex) c.deref.ensures.value
    (ltb-false _ _ (sym c.in-None.ensures.lookup.0)) in
    sym (get_or_past c.self.inside.in_degrees.items c.args.vertex 0 past)
    ∙ in_counted c.self.inside.edges.items c.self.inside.rows.items c.self.inside.in_degrees.items
    c.args.self.now c.self.invariant c.self.view_is c.args.vertex
