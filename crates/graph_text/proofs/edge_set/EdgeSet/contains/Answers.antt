use Rattle.std.proofs.Common.{◌≤◌, ◌<◌, ◌∙◌, List, false, length, ap, sym, subst}
use Rattle.std.proofs.lemmas.Bool.{ltb-true, ltb-false}
use Rattle.graph_text.specs.declared.successors.Successors.{Successors}
use Rattle.graph_text.specs.EdgeIndex.{has, has_at}
use Rattle.graph_text.proofs.IndexLemmas.{row_value_read, row_value_past, held_in}
use Rattle.graph_text.proofs.edge_set.EdgeSet.contains.Goals as goal

pub returns-in-Some : goal.returns-in-Some
returns-in-Some c =
    let rows = c.deref.result.now in
    let inside : c.args.src < length rows = ltb-true _ _ (sym c.in-Some.ensures.lookup.0) in
    c.contains.ensures ∙ ap (λ (r : Successors). has r c.args.dst) c.in-Some.ensures.lookup.1
    ∙ sym (row_value_read (λ (r : Successors). has r c.args.dst) false rows c.args.src _ inside)
    ∙ ap (λ (xs : List Successors). has_at xs c.args.src c.args.dst) c.deref.ensures.value
    ∙ held_in c.self.inside.edges.items c.self.inside.rows.items c.self.inside.in_degrees.items
    c.args.self.now c.self.invariant c.self.view_is c.args.src c.args.dst

pub returns-in-None : goal.returns-in-None
returns-in-None c =
    let past : length c.self.inside.rows.items ≤ c.args.src =
    subst (λ (xs : List Successors). length xs ≤ c.args.src) c.deref.ensures.value
    (ltb-false _ _ (sym c.in-None.ensures.lookup.0)) in
    sym (row_value_past (λ (r : Successors). has r c.args.dst) false c.self.inside.rows.items
    c.args.src past)
    ∙ held_in c.self.inside.edges.items c.self.inside.rows.items c.self.inside.in_degrees.items
    c.args.self.now c.self.invariant c.self.view_is c.args.src c.args.dst
