use Rattle.std.proofs.Common.{◌≤◌, ◌<◌, ◌∙◌, List, length, ap, sym, subst}
use Rattle.std.proofs.lemmas.Bool.{ltb-true, ltb-false}
use Rattle.graph_text.specs.declared.successors.Successors.{Successors}
use Rattle.graph_text.specs.EdgeIndex.{count_at}
use Rattle.graph_text.proofs.IndexLemmas.{row_value_read, row_value_past, out_counted}
use Rattle.graph_text.proofs.edge_set.EdgeSet.out_degree.Goals as goal

pub returns-in-Some : goal.returns-in-Some
returns-in-Some c =
    let rows = c.deref.result.now in
    let inside : c.args.vertex < length rows = ltb-true _ _ (sym c.in-Some.ensures.lookup.0) in
    ap (λ (r : Successors). r.count) c.in-Some.ensures.lookup.1
    ∙ sym (row_value_read (λ (r : Successors). r.count) 0 rows c.args.vertex _ inside)
    ∙ ap (λ (xs : List Successors). count_at xs c.args.vertex) c.deref.ensures.value
    ∙ out_counted c.self.inside.edges.items c.self.inside.rows.items c.self.inside.in_degrees.items
    c.args.self.now c.self.invariant c.self.view_is c.args.vertex

pub returns-in-None : goal.returns-in-None
returns-in-None c =
    let past : length c.self.inside.rows.items ≤ c.args.vertex =
    subst (λ (xs : List Successors). length xs ≤ c.args.vertex) c.deref.ensures.value
    (ltb-false _ _ (sym c.in-None.ensures.lookup.0)) in
    sym (row_value_past (λ (r : Successors). r.count) 0 c.self.inside.rows.items c.args.vertex past)
    ∙ out_counted c.self.inside.edges.items c.self.inside.rows.items c.self.inside.in_degrees.items
    c.args.self.now c.self.invariant c.self.view_is c.args.vertex
