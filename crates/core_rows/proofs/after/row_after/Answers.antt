use Rattle.std.proofs.Common.{◌≡◌, ℕ, ℤ, List, length, IfOk, sym, ap, ◌∙◌, subst}
use Rattle.std.specs.List.{zip}
use Rattle.std.proofs.lemmas.List.FromFn.{length-map-range_with_len}
use Rattle.bolt_base.specs.Graph.{Graph, vertices}
use Rattle.bolt_base.specs.Keep.{Row}
use Rattle.vertex_expr.specs.ProgramBounds.{aggregated}
use Rattle.vertex_expr.specs.Span.{AreIn}
use Rattle.vertex_expr.specs.declared.program.ProgramEntries.{ProgramEntries}
use Rattle.run_model.specs.Rows.{Lists, applied, at, each_vertex, gathered}
use Rattle.run_model.proofs.InRange.{at_vertex, gathered_in}
use Rattle.core_rows.proofs.EntryLemmas.{each_same}
use Rattle.core_rows.proofs.after.row_after.Goals as goal

pub row_of-requires-clause-long : goal.row_of-requires-clause-long
row_of-requires-clause-long g c =
    let p : ProgramEntries = c.args.program.now in
    let h : Graph = g.A.Adjacency.plain c.args.graph.now in
    ap length (c.deref.ensures.value ∙ c.in_ok-aggs.ensures)
    ∙ length-map-range_with_len (gathered p h c.args.vals.now) 0 (vertices h)

pub row_of-requires-clause-aggs : goal.row_of-requires-clause-aggs
row_of-requires-clause-aggs g c v there =
    let p : ProgramEntries = c.args.program.now in
    let h : Graph = g.A.Adjacency.plain c.args.graph.now in
    let vals : Lists = c.args.vals.now in
    let before = c.requires.before in
    subst (AreIn (aggregated p))
    (sym (ap (λ (l : Lists). at l v) (c.deref.ensures.value ∙ c.in_ok-aggs.ensures)
    ∙ at_vertex h (gathered p h vals) v there))
    (gathered_in p h before.safe before.good vals before.ranged v)

pub returns : goal.returns
returns g c =
    let p : ProgramEntries = c.args.program.now in
    let h : Graph = g.A.Adjacency.plain c.args.graph.now in
    let vals : Lists = c.args.vals.now in
    let aggs = c.deref.ensures.value ∙ c.in_ok-aggs.ensures in
    let f : ℕ → List ℤ = gathered p h vals in
    let value : (ℕ → List ℤ) → ℕ → List ℤ = λ agg v. applied p h (agg v) (at vals v) v in
    let made : zip c.deref.result.now (each_vertex h (value (at c.deref.result.now)))
    ≡ zip (each_vertex h f) (each_vertex h (value f)) =
    (λ j. zip (aggs j) (each_vertex h (value (at (aggs j)))))
    ∙ ap (zip (each_vertex h f)) (each_same h (value (at (each_vertex h f))) (value f)
    (λ v there. ap (λ xs. applied p h xs (at vals v) v) (at_vertex h f v there))) in
    subst (λ (row : Row). IfOk c.row_of.result (λ x. x ≡ row)) made c.row_of.ensures
