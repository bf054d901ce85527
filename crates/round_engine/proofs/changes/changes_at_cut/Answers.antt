use Rattle.std.proofs.Common.{◌≡◌, ◌<◌, ◌++◌, ◌∷◌, [], ℕ, List, length, get_or, sym, ap, ◌∙◌}
use Rattle.std.proofs.Common.{subst, arith}
use Rattle.std.proofs.lemmas.List.{take_all}
use Rattle.bolt_base.specs.Graph.{Graph, vertices}
use Rattle.vertex_expr.specs.declared.program.ProgramEntries.{ProgramEntries}
use Rattle.run_model.specs.Logs.{differs}
use Rattle.run_model.specs.Refined.{IsRefined}
use Rattle.run_model.specs.Rows.{at, row}
use Rattle.agg_history.specs.Puts.{put_at}
use Rattle.refine_rows.proofs.PickLemmas.{picked_where}
use Rattle.round_engine.specs.Parts.{changes_in, renewed}
use Rattle.round_engine.proofs.ChangeLemmas.{changes_next, new_long}
use Rattle.round_engine.proofs.changes.changes_at_cut.Goals as goal

there : (p : ProgramEntries) (was now : Graph) (cut : ℕ) (vs : List ℕ) (k : ℕ)
    → vs ≡ renewed (row p was cut) (row p now cut) → k < length vs → get_or vs k 0 < vertices now
there p was now cut vs k is small =
    let long = new_long p was now cut in
    let one = picked_where (length (row p now cut)) (differs (row p was cut) (row p now cut)) k
    (subst (λ us. k < length us) is small) in
    let low = one.below in
    subst (λ us. get_or us k 0 < vertices now) (sym is) (omega arith)

pub laid_value-value-requires-clause-vertex : goal.laid_value-value-requires-clause-vertex
laid_value-value-requires-clause-vertex g c =
    there c.args.program.now g.O.OldGraph.graph (g.A.Adjacency.plain c.args.graph.now)
    c.args.history.now.cut c.deref-v-items.result.now c.loop-v.v-index
    (c.deref-v-items.ensures.value ∙ c.in_ok-vs.ensures) c.loop-v-test.true

pub laid_value-value-requires-clause-refined : goal.laid_value-value-requires-clause-refined
laid_value-value-requires-clause-refined g c =
    let p : ProgramEntries = c.args.program.now in
    let was : Graph = g.O.OldGraph.graph in
    let now : Graph = g.A.Adjacency.plain c.args.graph.now in
    let cut : ℕ = c.args.history.now.cut in
    let v : ℕ = get_or c.deref-v-items.result.now c.loop-v.v-index 0 in
    let small = there p was now cut c.deref-v-items.result.now c.loop-v.v-index
    (c.deref-v-items.ensures.value ∙ c.in_ok-vs.ensures) c.loop-v-test.true in
    subst (λ i. IsRefined p was now (put_at c.args.overlay.now.puts) i v)
    (sym c.cut-last.ensures)
    (c.requires.refined.within.done cut v (omega arith) small)

pub loop-v-preserved : goal.loop-v-preserved
loop-v-preserved g c =
    let p : ProgramEntries = c.args.program.now in
    let now : Graph = g.A.Adjacency.plain c.args.graph.now in
    let vs : List ℕ = c.deref-v-items.result.now in
    let v : ℕ = get_or vs c.loop-v.v-index 0 in
    let value = c.laid_value-value.ensures ∙ ap (λ i. at (row p now i) v) c.cut-last.ensures in
    c.in_ok-push.ensures.ok
    ∙ (λ i. c.loop-v.invariant i ++ record { vertex = v; value = value i } ∷ [])
    ∙ sym (changes_next (row p now c.args.history.now.cut) vs c.loop-v.v-index c.loop-v-test.true)

pub returns : goal.returns
returns g c =
    let p : ProgramEntries = c.args.program.now in
    let was : Graph = g.O.OldGraph.graph in
    let now : Graph = g.A.Adjacency.plain c.args.graph.now in
    let cut : ℕ = c.args.history.now.cut in
    let past = c.loop-v-test.false in
    let is = c.deref-v-items.ensures.value ∙ c.in_ok-vs.ensures in
    c.loop-v.invariant
    ∙ ap (changes_in (row p now cut)) (take_all c.loop-v.v-index c.deref-v-items.result.now
    (omega arith) ∙ is)
    ∙ ap (λ i. changes_in (row p now i) (renewed (row p was i) (row p now i))) c.requires.last
