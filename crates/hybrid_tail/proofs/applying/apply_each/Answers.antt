use Rattle.std.proofs.Common.{◌≡◌, ◌-◌, ◌<◌, ℕ, ℤ, List, [], length, get_or, set, sym, ap, ◌∙◌}
use Rattle.std.proofs.Common.{subst, arith}
use Rattle.std.proofs.lemmas.List.{get_or_read}
use Rattle.bolt_base.specs.Graph.{Graph, vertices}
use Rattle.vertex_expr.specs.ProgramBounds.{aggregated, lane_spans}
use Rattle.vertex_expr.specs.Span.{AreIn}
use Rattle.vertex_expr.specs.declared.program.ProgramEntries.{ProgramEntries}
use Rattle.run_model.specs.Rows.{Lists, applied, at}
use Rattle.run_model.proofs.InRange.{values_in}
use Rattle.run_model.proofs.RowLemmas.{aggregates_ranged, aggregates_whole, values_whole}
use Rattle.hybrid_tail.proofs.SetLemmas.{each_more}
use Rattle.hybrid_tail.proofs.applying.apply_each.Goals as goal

pub bounds-aggs-k : goal.bounds-aggs-k
bounds-aggs-k g c =
    let h : Graph = g.A.Adjacency.plain c.args.graph.now in
    let there = c.requires.below c.loop-place.place 0 c.loop-place-test.true in
    let long = ap length c.requires.aggs
    ∙ (aggregates_whole c.args.program.now h c.args.i).each_vertex in
    omega arith

pub bounds-last-k : goal.bounds-last-k
bounds-last-k g c =
    let h : Graph = g.A.Adjacency.plain c.args.graph.now in
    let there = c.requires.below c.loop-place.place 0 c.loop-place-test.true in
    let long = ap length c.requires.last
    ∙ (values_whole c.args.program.now h (c.args.i - 1)).each_vertex in
    omega arith

pub next_value-requires-clause-agg : goal.next_value-requires-clause-agg
next_value-requires-clause-agg g c =
    let p : ProgramEntries = c.args.program.now in
    let h : Graph = g.A.Adjacency.plain c.args.graph.now in
    let on = c.requires.go_on in
    let some = on.some in
    let v : ℕ = get_or c.args.chosen.now c.loop-place.place 0 in
    let there : v < vertices h = c.requires.below c.loop-place.place 0 c.loop-place-test.true in
    let long = ap length c.requires.aggs ∙ (aggregates_whole p h c.args.i).each_vertex in
    subst (AreIn (aggregated p))
    (sym (get_or_read c.args.aggs.now v c.index-aggs-k.result (omega arith) c.index-aggs-k.is []
    ∙ ap (λ (xs : Lists). at xs v) c.requires.aggs))
    (aggregates_ranged p h on.safe on.good c.args.i v (omega arith) there)

pub next_value-requires-clause-before : goal.next_value-requires-clause-before
next_value-requires-clause-before g c =
    let p : ProgramEntries = c.args.program.now in
    let h : Graph = g.A.Adjacency.plain c.args.graph.now in
    let on = c.requires.go_on in
    let v : ℕ = get_or c.args.chosen.now c.loop-place.place 0 in
    let there : v < vertices h = c.requires.below c.loop-place.place 0 c.loop-place-test.true in
    let long = ap length c.requires.last ∙ (values_whole p h (c.args.i - 1)).each_vertex in
    subst (AreIn (lane_spans p.ranges))
    (sym (get_or_read c.args.last.now v c.index-last-k.result (omega arith) c.index-last-k.is []
    ∙ ap (λ (xs : Lists). at xs v) c.requires.last))
    (values_in p h on.safe on.good (c.args.i - 1) v there)

pub loop-place-preserved : goal.loop-place-preserved
loop-place-preserved g c =
    let p : ProgramEntries = c.args.program.now in
    let h : Graph = g.A.Adjacency.plain c.args.graph.now in
    let aggs : Lists = c.args.aggs.now in
    let last : Lists = c.args.last.now in
    let k : ℕ = c.loop-place.place in
    let v : ℕ = get_or c.args.chosen.now k 0 in
    let there : v < vertices h = c.requires.below k 0 c.loop-place-test.true in
    let aggs_long = ap length c.requires.aggs ∙ (aggregates_whole p h c.args.i).each_vertex in
    let last_long = ap length c.requires.last ∙ (values_whole p h (c.args.i - 1)).each_vertex in
    let agg : c.index-aggs-k.result ≡ at aggs v =
    get_or_read aggs v c.index-aggs-k.result (omega arith) c.index-aggs-k.is [] in
    let before : c.index-last-k.result ≡ at last v =
    get_or_read last v c.index-last-k.result (omega arith) c.index-last-k.is [] in
    let f : (ℕ → List ℤ) = λ u. applied p h (at aggs u) (at last u) u in
    let made : c.next_value.result ≡ f v = c.next_value.ensures.value
    ∙ (λ j. applied p h (agg j) (before j) v) in
    (λ j. set (c.loop-place.invariant j) v (made j))
    ∙ sym (each_more f c.args.chosen.now k c.args.vals.now c.loop-place-test.true)
