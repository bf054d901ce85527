use Rattle.std.proofs.Common.{◌≡◌, ◌<◌, ℕ, ℤ, List, [], length, get_or, sym, ap, ◌∙◌, subst, arith}
use Rattle.std.proofs.lemmas.List.{get_or_read}
use Rattle.std.proofs.lemmas.List.FromFn.{length-map-range_with_len}
use Rattle.bolt_base.specs.Graph.{Graph, vertices}
use Rattle.vertex_expr.specs.ProgramBounds.{aggregated, lane_spans}
use Rattle.vertex_expr.specs.Span.{AreIn}
use Rattle.vertex_expr.specs.declared.program.ProgramEntries.{ProgramEntries}
use Rattle.run_model.specs.Rows.{Lists, applied, each_vertex, gathered}
use Rattle.run_model.proofs.InRange.{at_vertex, gathered_in}
use Rattle.sync_engine.proofs.values.next_value_of.Goals as goal

aggs_long : (h : Graph) (f : ℕ → List ℤ) (aggs : Lists) → aggs ≡ each_vertex h f
    → length aggs ≡ vertices h
aggs_long h f aggs e = ap length e ∙ length-map-range_with_len f 0 (vertices h)

agg_read : (h : Graph) (f : ℕ → List ℤ) (aggs : Lists) (v : ℕ) (x : List ℤ) → aggs ≡ each_vertex h f
    → v < vertices h → x ≡ get_or aggs v x → x ≡ f v
agg_read h f aggs v x e there is =
    let n = aggs_long h f aggs e in
    get_or_read aggs v x (omega arith) is [] ∙ ap (λ xs. get_or xs v []) e ∙ at_vertex h f v there

pub bounds-aggs-v : goal.bounds-aggs-v
bounds-aggs-v g c =
    let h : Graph = g.A.Adjacency.plain c.args.graph.now in
    let n = aggs_long h
    (gathered c.args.program.now h c.args.vals.now) c.args.aggs.now c.requires.aggs in
    let there = c.requires.vertex in
    omega arith

pub next_value-requires-clause-agg : goal.next_value-requires-clause-agg
next_value-requires-clause-agg g c =
    let p : ProgramEntries = c.args.program.now in
    let h : Graph = g.A.Adjacency.plain c.args.graph.now in
    let before = c.requires.before in
    subst (AreIn (aggregated p))
    (sym (agg_read h (gathered p h c.args.vals.now) c.args.aggs.now c.args.v
    c.index-aggs-v.result c.requires.aggs c.requires.vertex c.index-aggs-v.is))
    (gathered_in p h before.safe before.good c.args.vals.now before.ranged c.args.v)

pub next_value-requires-clause-before : goal.next_value-requires-clause-before
next_value-requires-clause-before g c =
    let p : ProgramEntries = c.args.program.now in
    let h : Graph = g.A.Adjacency.plain c.args.graph.now in
    let before = c.requires.before in
    let there = c.requires.vertex in
    let whole = before.long in
    subst (AreIn (lane_spans p.ranges))
    (sym (get_or_read c.args.vals.now c.args.v c.index-vals-v.result (omega arith)
    c.index-vals-v.is []))
    (before.ranged c.args.v there)

pub returns : goal.returns
returns g c =
    let p : ProgramEntries = c.args.program.now in
    let h : Graph = g.A.Adjacency.plain c.args.graph.now in
    let v : ℕ = c.args.v in
    let vals : Lists = c.args.vals.now in
    let there = c.requires.vertex in
    let whole = c.requires.before.long in
    let agg = agg_read h (gathered p h vals) c.args.aggs.now v c.index-aggs-v.result
    c.requires.aggs there c.index-aggs-v.is in
    let val = get_or_read vals v c.index-vals-v.result (omega arith) c.index-vals-v.is [] in
    record { value = c.next_value.ensures.value ∙ (λ j. applied p h (agg j) (val j) v) }
