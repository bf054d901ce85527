use Rattle.std.proofs.Common.{rules, ◌≡◌, ◌<◌, ◌^◌, ◌||◌, ℕ, Bool, List, length, map, ap, sym}
use Rattle.std.proofs.Common.{◌∙◌, subst, arith}
use Rattle.std.specs.List.{All, Contains}
use Rattle.bolt_base.specs.Change.{is_source}
use Rattle.bolt_base.specs.Graph.{Graph, vertices}
use Rattle.bolt_base.specs.declared.edge.Edge.{Edge}
use Rattle.bolt_base.specs.declared.edge.Touched.{Touched}
use Rattle.vertex_expr.specs.declared.program.ProgramEntries.{ProgramEntries}
use Rattle.run_model.specs.Steps.{Step, is_dirty, step}
use Rattle.run_model.specs.Visits.{changed}
use Rattle.edge_map.specs.declared.tasks.Tasks.{Tasks}
use Rattle.refine_rows.proofs.AgainLemmas.{sources_are}
use Rattle.refine_tasks.specs.Sides.{IsPlacedIn, side_of}
use Rattle.refine_tasks.proofs.TaskLemmas.{added_there, are_tasks, dirty_new, few_where}
use Rattle.refine_tasks.proofs.TaskLemmas.{removed_there, where_below, where_rises}
use Rattle.refine_tasks.proofs.tasks.tasks_of.Goals as goal

pub sources_of-requires-clause-vertices : goal.sources_of-requires-clause-vertices
sources_of-requires-clause-vertices g c =
    let p : ProgramEntries = c.args.program.now in
    let was : Graph = g.O.OldGraph.graph in
    let now : Graph = g.A.Adjacency.plain c.args.graph.now in
    let s : Step = step p was now c.args.i in
    let q : (ℕ → Bool) = λ u. is_source was now u || is_dirty p s u in
    let us : c.in_ok-us.us.items ≡ changed p s =
    c.in_ok-us.ensures.all (vertices now) (is_source was now) (is_dirty p s)
    (c.deref.ensures.value ∙ c.in_ok-touched.ensures
    ∙ ap (map (λ (t : Touched). t.vertex)) (c.as_slice.ensures ∙ c.requires.change.net.is_sources)
    ∙ sources_are was now)
    (c.deref-2.ensures.value ∙ c.in_ok-again.ensures
    ∙ sym (dirty_new p s c.requires.change.over.more)) in
    where_below (vertices now) q c.deref-4.result.now (c.deref-4.ensures.value ∙ us)

pub placed-requires : goal.placed-requires
placed-requires g c =
    let p : ProgramEntries = c.args.program.now in
    let was : Graph = g.O.OldGraph.graph in
    let now : Graph = g.A.Adjacency.plain c.args.graph.now in
    let s : Step = step p was now c.args.i in
    let q : (ℕ → Bool) = λ u. is_source was now u || is_dirty p s u in
    let us : c.in_ok-us.us.items ≡ changed p s =
    c.in_ok-us.ensures.all (vertices now) (is_source was now) (is_dirty p s)
    (c.deref.ensures.value ∙ c.in_ok-touched.ensures
    ∙ ap (map (λ (t : Touched). t.vertex)) (c.as_slice.ensures ∙ c.requires.change.net.is_sources)
    ∙ sources_are was now)
    (c.deref-2.ensures.value ∙ c.in_ok-again.ensures
    ∙ sym (dirty_new p s c.requires.change.over.more)) in
    let here = c.deref-5.ensures.value ∙ us in
    let few = few_where (vertices now) q in
    let same = ap length here in
    let count = c.vertices-count.ensures in
    let small : c.vertices-count.result < 2 ^ 32 = search rules in
    record {
      rises = where_rises (vertices now) q c.deref-5.result.now here;
      few = omega arith;
      there = subst (All (λ (e : Edge). Contains c.deref-5.result.now e.src))
          (sym (c.as_slice-2.ensures ∙ c.requires.change.net.is_removed))
          (removed_there p s c.requires.change.over.old c.requires.change.over.new
          c.requires.change.over.more c.deref-5.result.now here);
    }

pub placed-requires-2 : goal.placed-requires-2
placed-requires-2 g c =
    let p : ProgramEntries = c.args.program.now in
    let was : Graph = g.O.OldGraph.graph in
    let now : Graph = g.A.Adjacency.plain c.args.graph.now in
    let s : Step = step p was now c.args.i in
    let q : (ℕ → Bool) = λ u. is_source was now u || is_dirty p s u in
    let us : c.in_ok-us.us.items ≡ changed p s =
    c.in_ok-us.ensures.all (vertices now) (is_source was now) (is_dirty p s)
    (c.deref.ensures.value ∙ c.in_ok-touched.ensures
    ∙ ap (map (λ (t : Touched). t.vertex)) (c.as_slice.ensures ∙ c.requires.change.net.is_sources)
    ∙ sources_are was now)
    (c.deref-2.ensures.value ∙ c.in_ok-again.ensures
    ∙ sym (dirty_new p s c.requires.change.over.more)) in
    let here = c.deref-6.ensures.value ∙ us in
    let few = few_where (vertices now) q in
    let same = ap length here in
    let count = c.vertices-count.ensures in
    let small : c.vertices-count.result < 2 ^ 32 = search rules in
    record {
      rises = where_rises (vertices now) q c.deref-6.result.now here;
      few = omega arith;
      there = subst (All (λ (e : Edge). Contains c.deref-6.result.now e.src))
          (sym (c.as_slice-3.ensures ∙ c.requires.change.net.is_added))
          (added_there p s c.requires.change.over.old c.requires.change.over.new
          c.requires.change.over.more c.deref-6.result.now here);
    }

pub returns : goal.returns
returns g c =
    let p : ProgramEntries = c.args.program.now in
    let was : Graph = g.O.OldGraph.graph in
    let now : Graph = g.A.Adjacency.plain c.args.graph.now in
    let s : Step = step p was now c.args.i in
    let us : c.in_ok-us.us.items ≡ changed p s =
    c.in_ok-us.ensures.all (vertices now) (is_source was now) (is_dirty p s)
    (c.deref.ensures.value ∙ c.in_ok-touched.ensures
    ∙ ap (map (λ (t : Touched). t.vertex)) (c.as_slice.ensures ∙ c.requires.change.net.is_sources)
    ∙ sources_are was now)
    (c.deref-2.ensures.value ∙ c.in_ok-again.ensures
    ∙ sym (dirty_new p s c.requires.change.over.more)) in
    let t : Tasks = record {
      sources = c.in_ok-sources.sources;
      removed = c.in_ok-removed.removed;
      added = c.in_ok-added.added;
    }
    in
    are_tasks p s c.requires.change.over.more t c.in_ok-us.us.items us
    (c.in_ok-sources.ensures ∙ ap (map (side_of p s)) c.deref-4.ensures.value)
    (c.in_ok-removed.ensures.edges ∙ c.as_slice-2.ensures ∙ c.requires.change.net.is_removed)
    (c.in_ok-added.ensures.edges ∙ c.as_slice-3.ensures ∙ c.requires.change.net.is_added)
    (subst (λ (l : List ℕ). All (IsPlacedIn l) c.in_ok-removed.removed) c.deref-5.ensures.value
    c.in_ok-removed.ensures.placed)
    (subst (λ (l : List ℕ). All (IsPlacedIn l) c.in_ok-added.added) c.deref-6.ensures.value
    c.in_ok-added.ensures.placed)
