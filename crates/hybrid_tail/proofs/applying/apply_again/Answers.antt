use Rattle.std.proofs.Common.{◌≡◌, ◌-◌, ◌<◌, ℕ, length, sym, ap, ◌∙◌, subst}
use Rattle.std.specs.List.{All}
use Rattle.std.proofs.lemmas.List.{with_items_is}
use Rattle.bolt_base.specs.Graph.{Graph, vertices}
use Rattle.vertex_expr.specs.declared.program.ProgramEntries.{ProgramEntries}
use Rattle.run_model.specs.Rows.{Lists, applied, at, row}
use Rattle.run_model.specs.Steps.{is_active, is_tail_applied, is_tail_target}
use Rattle.run_model.proofs.RowLemmas.{values_whole}
use Rattle.refine_rows.specs.Picked.{vertices_where}
use Rattle.hybrid_tail.specs.Setting.{with_each}
use Rattle.hybrid_tail.proofs.RowLemmas.{all_picked, last_made, moved_made, next_made, values_made}
use Rattle.hybrid_tail.proofs.applying.apply_again.Goals as goal

pub copy_values-requires-clause-long : goal.copy_values-requires-clause-long
copy_values-requires-clause-long g c =
    let p : ProgramEntries = c.args.program.now in
    let h : Graph = g.A.Adjacency.plain c.args.graph.now in
    let i : ℕ = c.args.i in
    let vals : c.deref-2.result.now ≡ row p h (i - 1) = c.deref-2.ensures.value
    ∙ c.requires.rows.vals in
    let long : length c.deref-2.result.now ≡ vertices h = ap length vals
    ∙ (values_whole p h (i - 1)).each_vertex in
    let last : c.as_mut_slice.result.now ≡ row p h (i - 2) = c.as_mut_slice.ensures.value
    ∙ c.requires.rows.last in
    ap length last ∙ (values_whole p h (i - 2)).each_vertex ∙ sym long

pub copy_values-requires-clause-below : goal.copy_values-requires-clause-below
copy_values-requires-clause-below g c =
    let p : ProgramEntries = c.args.program.now in
    let h : Graph = g.A.Adjacency.plain c.args.graph.now in
    let i : ℕ = c.args.i in
    let vals : c.deref-2.result.now ≡ row p h (i - 1) = c.deref-2.ensures.value
    ∙ c.requires.rows.vals in
    let long : length c.deref-2.result.now ≡ vertices h = ap length vals
    ∙ (values_whole p h (i - 1)).each_vertex in
    subst (λ n. All (λ v. v < n) c.deref-3.result.now) (sym long)
    (all_picked (vertices h) (is_active p h i) c.deref-3.result.now
    (c.deref-3.ensures.value ∙ c.requires.rows.moved))

pub apply_each-requires-clause-last : goal.apply_each-requires-clause-last
apply_each-requires-clause-last g c =
    let p : ProgramEntries = c.args.program.now in
    let h : Graph = g.A.Adjacency.plain c.args.graph.now in
    let i : ℕ = c.args.i in
    let vals : c.deref-2.result.now ≡ row p h (i - 1) = c.deref-2.ensures.value
    ∙ c.requires.rows.vals in
    let last : c.as_mut_slice.result.now ≡ row p h (i - 2) = c.as_mut_slice.ensures.value
    ∙ c.requires.rows.last in
    let copied : c.copy_values.new.last ≡ row p h (i - 1) =
    last_made p h i c.requires.go_on c.as_mut_slice.result.now c.copy_values.new.last
    c.deref-3.result.now last (c.deref-3.ensures.value ∙ c.requires.rows.moved)
    (c.copy_values.ensures ∙ ap (λ (xs : Lists).
    with_each (at xs) c.deref-3.result.now c.as_mut_slice.result.now) vals) in
    let copied_long : length c.copy_values.new.last ≡ c.args.rows.now.last.len =
    ap length copied ∙ (values_whole p h (i - 1)).each_vertex
    ∙ sym (c.args.rows.now.last.ok.0 ∙ ap length c.requires.rows.last
    ∙ (values_whole p h (i - 2)).each_vertex) in
    let before : c.deref-5.result.now ≡ row p h (i - 1) = c.deref-5.ensures.value
    ∙ with_items_is c.args.rows.now.last c.copy_values.new.last copied_long ∙ copied in
    before

pub apply_each-requires-clause-long : goal.apply_each-requires-clause-long
apply_each-requires-clause-long g c =
    let p : ProgramEntries = c.args.program.now in
    let h : Graph = g.A.Adjacency.plain c.args.graph.now in
    let i : ℕ = c.args.i in
    ap length (c.as_mut_slice-2.ensures.value ∙ c.requires.rows.vals)
    ∙ (values_whole p h (i - 1)).each_vertex

pub apply_each-requires-clause-below : goal.apply_each-requires-clause-below
apply_each-requires-clause-below g c =
    let p : ProgramEntries = c.args.program.now in
    let h : Graph = g.A.Adjacency.plain c.args.graph.now in
    let i : ℕ = c.args.i in
    let again : c.in_ok-again.again.items ≡ vertices_where (vertices h) (is_tail_applied p h i) =
    c.in_ok-again.ensures.all (vertices h) (is_tail_target p h i) (is_active p h i)
    c.requires.targets (c.deref.ensures.value ∙ c.requires.rows.moved) in
    all_picked (vertices h) (is_tail_applied p h i) c.deref-6.result.now
    (c.deref-6.ensures.value ∙ again)

pub moved_among-requires-clause-long : goal.moved_among-requires-clause-long
moved_among-requires-clause-long g c =
    let p : ProgramEntries = c.args.program.now in
    let h : Graph = g.A.Adjacency.plain c.args.graph.now in
    let i : ℕ = c.args.i in
    let vals : c.deref-2.result.now ≡ row p h (i - 1) = c.deref-2.ensures.value
    ∙ c.requires.rows.vals in
    let last : c.as_mut_slice.result.now ≡ row p h (i - 2) = c.as_mut_slice.ensures.value
    ∙ c.requires.rows.last in
    let again : c.in_ok-again.again.items ≡ vertices_where (vertices h) (is_tail_applied p h i) =
    c.in_ok-again.ensures.all (vertices h) (is_tail_target p h i) (is_active p h i)
    c.requires.targets (c.deref.ensures.value ∙ c.requires.rows.moved) in
    let copied : c.copy_values.new.last ≡ row p h (i - 1) =
    last_made p h i c.requires.go_on c.as_mut_slice.result.now c.copy_values.new.last
    c.deref-3.result.now last (c.deref-3.ensures.value ∙ c.requires.rows.moved)
    (c.copy_values.ensures ∙ ap (λ (xs : Lists).
    with_each (at xs) c.deref-3.result.now c.as_mut_slice.result.now) vals) in
    let copied_long : length c.copy_values.new.last ≡ c.args.rows.now.last.len =
    ap length copied ∙ (values_whole p h (i - 1)).each_vertex
    ∙ sym (c.args.rows.now.last.ok.0 ∙ ap length c.requires.rows.last
    ∙ (values_whole p h (i - 2)).each_vertex) in
    let before : c.deref-5.result.now ≡ row p h (i - 1) = c.deref-5.ensures.value
    ∙ with_items_is c.args.rows.now.last c.copy_values.new.last copied_long ∙ copied in
    let made : c.apply_each.new.vals ≡ row p h i =
    values_made p h i c.requires.go_on c.as_mut_slice-2.result.now c.apply_each.new.vals
    c.deref-6.result.now (c.as_mut_slice-2.ensures.value ∙ c.requires.rows.vals)
    (c.deref-6.ensures.value ∙ again)
    (c.apply_each.ensures ∙ (λ j. with_each (λ v. applied p h
    (at ((c.deref-4.ensures.value ∙ c.requires.rows.aggs) j) v) (at (before j) v) v)
    c.deref-6.result.now c.as_mut_slice-2.result.now)) in
    let made_long : length c.apply_each.new.vals ≡ c.args.rows.now.vals.len =
    ap length made ∙ (values_whole p h i).each_vertex
    ∙ sym (c.args.rows.now.vals.ok.0 ∙ ap length c.requires.rows.vals
    ∙ (values_whole p h (i - 1)).each_vertex) in
    let was : c.deref-7.result.now ≡ row p h (i - 1) = c.deref-7.ensures.value
    ∙ with_items_is c.args.rows.now.last c.copy_values.new.last copied_long ∙ copied in
    let now : c.deref-8.result.now ≡ row p h i = c.deref-8.ensures.value
    ∙ with_items_is c.args.rows.now.vals c.apply_each.new.vals made_long ∙ made in
    ap length was ∙ (values_whole p h (i - 1)).each_vertex
    ∙ sym (ap length now ∙ (values_whole p h i).each_vertex)

pub moved_among-requires-clause-below : goal.moved_among-requires-clause-below
moved_among-requires-clause-below g c =
    let p : ProgramEntries = c.args.program.now in
    let h : Graph = g.A.Adjacency.plain c.args.graph.now in
    let i : ℕ = c.args.i in
    let vals : c.deref-2.result.now ≡ row p h (i - 1) = c.deref-2.ensures.value
    ∙ c.requires.rows.vals in
    let last : c.as_mut_slice.result.now ≡ row p h (i - 2) = c.as_mut_slice.ensures.value
    ∙ c.requires.rows.last in
    let again : c.in_ok-again.again.items ≡ vertices_where (vertices h) (is_tail_applied p h i) =
    c.in_ok-again.ensures.all (vertices h) (is_tail_target p h i) (is_active p h i)
    c.requires.targets (c.deref.ensures.value ∙ c.requires.rows.moved) in
    let copied : c.copy_values.new.last ≡ row p h (i - 1) =
    last_made p h i c.requires.go_on c.as_mut_slice.result.now c.copy_values.new.last
    c.deref-3.result.now last (c.deref-3.ensures.value ∙ c.requires.rows.moved)
    (c.copy_values.ensures ∙ ap (λ (xs : Lists).
    with_each (at xs) c.deref-3.result.now c.as_mut_slice.result.now) vals) in
    let copied_long : length c.copy_values.new.last ≡ c.args.rows.now.last.len =
    ap length copied ∙ (values_whole p h (i - 1)).each_vertex
    ∙ sym (c.args.rows.now.last.ok.0 ∙ ap length c.requires.rows.last
    ∙ (values_whole p h (i - 2)).each_vertex) in
    let before : c.deref-5.result.now ≡ row p h (i - 1) = c.deref-5.ensures.value
    ∙ with_items_is c.args.rows.now.last c.copy_values.new.last copied_long ∙ copied in
    let made : c.apply_each.new.vals ≡ row p h i =
    values_made p h i c.requires.go_on c.as_mut_slice-2.result.now c.apply_each.new.vals
    c.deref-6.result.now (c.as_mut_slice-2.ensures.value ∙ c.requires.rows.vals)
    (c.deref-6.ensures.value ∙ again)
    (c.apply_each.ensures ∙ (λ j. with_each (λ v. applied p h
    (at ((c.deref-4.ensures.value ∙ c.requires.rows.aggs) j) v) (at (before j) v) v)
    c.deref-6.result.now c.as_mut_slice-2.result.now)) in
    let made_long : length c.apply_each.new.vals ≡ c.args.rows.now.vals.len =
    ap length made ∙ (values_whole p h i).each_vertex
    ∙ sym (c.args.rows.now.vals.ok.0 ∙ ap length c.requires.rows.vals
    ∙ (values_whole p h (i - 1)).each_vertex) in
    let was : c.deref-7.result.now ≡ row p h (i - 1) = c.deref-7.ensures.value
    ∙ with_items_is c.args.rows.now.last c.copy_values.new.last copied_long ∙ copied in
    let now : c.deref-8.result.now ≡ row p h i = c.deref-8.ensures.value
    ∙ with_items_is c.args.rows.now.vals c.apply_each.new.vals made_long ∙ made in
    let long : length c.deref-8.result.now ≡ vertices h = ap length now
    ∙ (values_whole p h i).each_vertex in
    subst (λ n. All (λ v. v < n) c.deref-9.result.now) (sym long)
    (all_picked (vertices h) (is_tail_applied p h i) c.deref-9.result.now
    (c.deref-9.ensures.value ∙ again))

pub returns : goal.returns
returns g c =
    let p : ProgramEntries = c.args.program.now in
    let h : Graph = g.A.Adjacency.plain c.args.graph.now in
    let i : ℕ = c.args.i in
    let vals : c.deref-2.result.now ≡ row p h (i - 1) = c.deref-2.ensures.value
    ∙ c.requires.rows.vals in
    let last : c.as_mut_slice.result.now ≡ row p h (i - 2) = c.as_mut_slice.ensures.value
    ∙ c.requires.rows.last in
    let again : c.in_ok-again.again.items ≡ vertices_where (vertices h) (is_tail_applied p h i) =
    c.in_ok-again.ensures.all (vertices h) (is_tail_target p h i) (is_active p h i)
    c.requires.targets (c.deref.ensures.value ∙ c.requires.rows.moved) in
    let copied : c.copy_values.new.last ≡ row p h (i - 1) =
    last_made p h i c.requires.go_on c.as_mut_slice.result.now c.copy_values.new.last
    c.deref-3.result.now last (c.deref-3.ensures.value ∙ c.requires.rows.moved)
    (c.copy_values.ensures ∙ ap (λ (xs : Lists).
    with_each (at xs) c.deref-3.result.now c.as_mut_slice.result.now) vals) in
    let copied_long : length c.copy_values.new.last ≡ c.args.rows.now.last.len =
    ap length copied ∙ (values_whole p h (i - 1)).each_vertex
    ∙ sym (c.args.rows.now.last.ok.0 ∙ ap length c.requires.rows.last
    ∙ (values_whole p h (i - 2)).each_vertex) in
    let before : c.deref-5.result.now ≡ row p h (i - 1) = c.deref-5.ensures.value
    ∙ with_items_is c.args.rows.now.last c.copy_values.new.last copied_long ∙ copied in
    let made : c.apply_each.new.vals ≡ row p h i =
    values_made p h i c.requires.go_on c.as_mut_slice-2.result.now c.apply_each.new.vals
    c.deref-6.result.now (c.as_mut_slice-2.ensures.value ∙ c.requires.rows.vals)
    (c.deref-6.ensures.value ∙ again)
    (c.apply_each.ensures ∙ (λ j. with_each (λ v. applied p h
    (at ((c.deref-4.ensures.value ∙ c.requires.rows.aggs) j) v) (at (before j) v) v)
    c.deref-6.result.now c.as_mut_slice-2.result.now)) in
    let made_long : length c.apply_each.new.vals ≡ c.args.rows.now.vals.len =
    ap length made ∙ (values_whole p h i).each_vertex
    ∙ sym (c.args.rows.now.vals.ok.0 ∙ ap length c.requires.rows.vals
    ∙ (values_whole p h (i - 1)).each_vertex) in
    let was : c.deref-7.result.now ≡ row p h (i - 1) = c.deref-7.ensures.value
    ∙ with_items_is c.args.rows.now.last c.copy_values.new.last copied_long ∙ copied in
    let now : c.deref-8.result.now ≡ row p h i = c.deref-8.ensures.value
    ∙ with_items_is c.args.rows.now.vals c.apply_each.new.vals made_long ∙ made in
    next_made p h i c.requires.go_on _ c.requires.rows.aggs
    (with_items_is c.args.rows.now.vals c.apply_each.new.vals made_long ∙ made)
    (with_items_is c.args.rows.now.last c.copy_values.new.last copied_long ∙ copied)
    (moved_made p h i c.requires.go_on c.in_ok-rows.field-0.items c.deref-9.result.now
    c.deref-7.result.now c.deref-8.result.now was now (c.deref-9.ensures.value ∙ again)
    c.in_ok-rows.ensures)
