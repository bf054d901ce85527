use Rattle.std.proofs.Common.{◌≡◌, ℕ, List, [], ◌∷◌, ◌++◌, get_or, map, take, sym, ap, ◌∙◌}
use Rattle.std.proofs.lemmas.List.{map-append, take_all, take_more}
use Rattle.bolt_base.specs.Graph.{Graph, vertices}
use Rattle.vertex_expr.specs.declared.program.ProgramEntries.{ProgramEntries}
use Rattle.run_model.specs.Steps.{active, is_active}
use Rattle.edge_map.specs.declared.tasks.Source.{Source}
use Rattle.hybrid_tail.specs.TailTasks.{tail_source}
use Rattle.hybrid_tail.proofs.RowLemmas.{all_picked}
use Rattle.hybrid_tail.proofs.sums.tasks_of.Goals as goal

pub source_of-requires-clause-vertex : goal.source_of-requires-clause-vertex
source_of-requires-clause-vertex g c =
    let p : ProgramEntries = c.args.program.now in
    let h : Graph = g.A.Adjacency.plain c.args.graph.now in
    let i : ℕ = c.args.i in
    all_picked (vertices h) (is_active p h i) c.deref-u-items.result.now
    (c.deref-u-items.ensures.value ∙ c.requires.rows.moved) c.loop-u.u-index 0 c.loop-u-test.true

pub loop-u-preserved : goal.loop-u-preserved
loop-u-preserved g c =
    let f : (ℕ → Source) = tail_source c.args.program.now (g.A.Adjacency.plain c.args.graph.now)
    c.args.i in
    let us : List ℕ = c.deref-u-items.result.now in
    let k : ℕ = c.loop-u.u-index in
    c.in_ok-push.ensures.items
    ∙ (λ j. c.loop-u.invariant j ++ c.source_of.ensures j ∷ [])
    ∙ sym (ap (map f) (take_more us k 0 c.loop-u-test.true)
    ∙ map-append f (take k us) (get_or us k 0 ∷ []))

pub returns : goal.returns
returns g c =
    let p : ProgramEntries = c.args.program.now in
    let h : Graph = g.A.Adjacency.plain c.args.graph.now in
    let f : (ℕ → Source) = tail_source p h c.args.i in
    let all : c.loop-u.sources.items ≡ map f (active p h c.args.i) = c.loop-u.invariant
    ∙ ap (map f) (take_all c.loop-u.u-index c.deref-u-items.result.now c.loop-u-test.false
    ∙ c.deref-u-items.ensures.value ∙ c.requires.rows.moved) in
    λ j. record {
      sources = (c.from_vec.ensures ∙ all) j;
      removed = c.new.ensures j;
      added = c.new-2.ensures j;
    }
