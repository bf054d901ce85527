use Rattle.std.proofs.Common.{◌≡◌, Bool, not, ◌++◌, map, filter, sym, ap, ◌∙◌, subst}
use Rattle.std.specs.List.{All}
use Rattle.bolt_base.specs.Graph.{Graph, edges}
use Rattle.bolt_base.specs.LawsOfChange.{edge_stays}
use Rattle.bolt_base.specs.declared.edge.Edge.{Edge}
use Rattle.bolt_base.proofs.EdgeParts.{added-filter, removed-filter, stayed-filter}
use Rattle.vertex_expr.specs.declared.program.ProgramEntries.{ProgramEntries}
use Rattle.run_model.specs.Additions.{amounts_of, now, was}
use Rattle.run_model.specs.Given.{IsEdge}
use Rattle.run_model.specs.Steps.{Step}
use Rattle.core_adds.specs.Sides.{added_gift, change_adds, removed_gift, seen}
use Rattle.core_adds.proofs.ItemAdds.{all_pushed, filtered}
use Rattle.core_adds.proofs.items.adds_by_item.Goals as goal

pub push_each_removed-requires-clause-edges : goal.push_each_removed-requires-clause-edges
push_each_removed-requires-clause-edges g c =
    let p : ProgramEntries = c.args.program.now in
    let before : Graph = g.A.Adjacency.plain c.args.old.now in
    let after : Graph = g.A.Adjacency.plain c.args.new.now in
    let test : (Edge → Bool) = λ e. not (edge_stays before after e) in
    let is : c.deref-4.result.now ≡ filter test (edges before) =
    c.deref-4.ensures.value ∙ c.in_ok-removed.ensures
    ∙ ap (filter test) (c.deref.ensures.value ∙ c.in_ok-old_edges.ensures) in
    subst (All (IsEdge p before)) (sym is)
    (filtered p before after before c.args.was.now c.requires.sides.old test)

pub push_each_added-requires-clause-edges : goal.push_each_added-requires-clause-edges
push_each_added-requires-clause-edges g c =
    let p : ProgramEntries = c.args.program.now in
    let before : Graph = g.A.Adjacency.plain c.args.old.now in
    let after : Graph = g.A.Adjacency.plain c.args.new.now in
    let test : (Edge → Bool) = λ e. not (edge_stays before after e) in
    let is : c.deref-5.result.now ≡ filter test (edges after) =
    c.deref-5.ensures.value ∙ c.in_ok-added.ensures
    ∙ ap (filter test) (c.deref-2.ensures.value ∙ c.in_ok-new_edges.ensures) in
    subst (All (IsEdge p after)) (sym is)
    (filtered p before after after c.args.now.now c.requires.sides.new test)

pub push_each_dirty-requires-clause-edges : goal.push_each_dirty-requires-clause-edges
push_each_dirty-requires-clause-edges g c =
    let before : Graph = g.A.Adjacency.plain c.args.old.now in
    let after : Graph = g.A.Adjacency.plain c.args.new.now in
    c.deref-6.ensures.value ∙ c.in_ok-stayed.ensures
    ∙ ap (filter (edge_stays before after)) (c.deref-3.ensures.value ∙ c.in_ok-new_edges.ensures)
    ∙ sym (stayed-filter before after)

pub returns : goal.returns
returns g c =
    let p : ProgramEntries = c.args.program.now in
    let before : Graph = g.A.Adjacency.plain c.args.old.now in
    let after : Graph = g.A.Adjacency.plain c.args.new.now in
    let s : Step = seen before after c.args.was.now c.args.now.now in
    let test : (Edge → Bool) = λ e. not (edge_stays before after e) in
    let a : c.push_each_removed.new.all
    ≡ c.new-all.result
    ++ map (λ e. amounts_of p (removed_gift (was p s) e)) c.deref-4.result.now =
    c.in_ok-push_each_removed.ensures in
    let b : c.push_each_added.new.all
    ≡ c.push_each_removed.new.all
    ++ map (λ e. amounts_of p (added_gift (now p s) e)) c.deref-5.result.now =
    c.in_ok-push_each_added.ensures in
    let d : c.push_each_dirty.new.all
    ≡ c.push_each_added.new.all
    ++ map (change_adds p s c.deref-6.result.now) c.deref-7.result.now =
    c.in_ok-push_each_dirty.ensures in
    all_pushed p s c.new-all.result c.push_each_removed.new.all c.push_each_added.new.all
    c.push_each_dirty.new.all c.deref-4.result.now c.deref-5.result.now c.deref-6.result.now
    c.deref-7.result.now c.new-all.ensures a b d
    (c.deref-4.ensures.value ∙ c.in_ok-removed.ensures
    ∙ ap (filter test) (c.deref.ensures.value ∙ c.in_ok-old_edges.ensures)
    ∙ sym (removed-filter before after))
    (c.deref-5.ensures.value ∙ c.in_ok-added.ensures
    ∙ ap (filter test) (c.deref-2.ensures.value ∙ c.in_ok-new_edges.ensures)
    ∙ sym (added-filter before after))
    (c.deref-6.ensures.value ∙ c.in_ok-stayed.ensures
    ∙ ap (filter (edge_stays before after))
    (c.deref-3.ensures.value ∙ c.in_ok-new_edges.ensures)
    ∙ sym (stayed-filter before after))
    (c.deref-7.ensures.value ∙ c.in_ok-us.ensures)
