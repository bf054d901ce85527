use Rattle.std.proofs.Common.{◌≡◌, ℕ, ℤ, List, [], map, sym, ap, ◌∙◌, subst, arith}
use Rattle.std.specs.List.{range_with_len}
use Rattle.std.proofs.lemmas.List.{get_or_read}
use Rattle.bolt_base.specs.Graph.{Graph, vertices}
use Rattle.vertex_expr.specs.ProgramBounds.{aggregated, lane_spans}
use Rattle.vertex_expr.specs.Span.{AreIn}
use Rattle.vertex_expr.specs.declared.program.ProgramEntries.{ProgramEntries}
use Rattle.run_model.specs.Rows.{Lists, applied, at}
use Rattle.run_model.proofs.Gathering.{table_more}
use Rattle.core_rows.proofs.EntryLemmas.{zip_with}
use Rattle.core_rows.proofs.after.row_of.Goals as goal

pub next_value-value-requires-clause-agg : goal.next_value-value-requires-clause-agg
next_value-value-requires-clause-agg g c =
    let p : ProgramEntries = c.args.program.now in
    let test = c.loop-v-test.true in
    let n = c.vertices-v-end.ensures in
    let long = c.requires.long in
    subst (AreIn (aggregated p))
    (sym (get_or_read c.args.aggs.now c.loop-v.v c.index-aggs-v.result (omega arith)
    c.index-aggs-v.is []))
    (c.requires.aggs c.loop-v.v (omega arith))

pub next_value-value-requires-clause-before : goal.next_value-value-requires-clause-before
next_value-value-requires-clause-before g c =
    let p : ProgramEntries = c.args.program.now in
    let test = c.loop-v-test.true in
    let n = c.vertices-v-end.ensures in
    let long = c.requires.before.long in
    subst (AreIn (lane_spans p.ranges))
    (sym (get_or_read c.args.vals.now c.loop-v.v c.index-vals-v.result (omega arith)
    c.index-vals-v.is []))
    (c.requires.before.ranged c.loop-v.v (omega arith))

pub loop-v-preserved : goal.loop-v-preserved
loop-v-preserved g c =
    let p : ProgramEntries = c.args.program.now in
    let h : Graph = g.A.Adjacency.plain c.args.graph.now in
    let aggs : Lists = c.args.aggs.now in
    let vals : Lists = c.args.vals.now in
    let v : ℕ = c.loop-v.v in
    let test = c.loop-v-test.true in
    let n = c.vertices-v-end.ensures in
    let long = c.requires.long in
    let whole = c.requires.before.long in
    let agg = get_or_read aggs v c.index-aggs-v.result (omega arith) c.index-aggs-v.is [] in
    let val = get_or_read vals v c.index-vals-v.result (omega arith) c.index-vals-v.is [] in
    table_more (λ v. (at aggs v, applied p h (at aggs v) (at vals v) v)) v c.loop-v.row.items
    c.push.new.self.items (c.index-aggs-v.result, c.next_value-value.result)
    c.in_ok-push.ensures.items c.loop-v.invariant
    (λ j. (
      agg j,
      (c.next_value-value.ensures.value
          ∙ (λ k. applied p h (agg k) (val k) v)) j,
    ))

pub returns : goal.returns
returns g c =
    let p : ProgramEntries = c.args.program.now in
    let h : Graph = g.A.Adjacency.plain c.args.graph.now in
    let aggs : Lists = c.args.aggs.now in
    let vals : Lists = c.args.vals.now in
    let value : ℕ → List ℤ = λ v. applied p h (at aggs v) (at vals v) v in
    let past = c.loop-v-test.false in
    let end = c.loop-v.auto.v-end in
    let all : c.loop-v.v ≡ vertices h = omega (arith, c.vertices-v-end.ensures) in
    c.from_vec.ensures ∙ c.loop-v.invariant
    ∙ ap (λ n. map (λ v. (at aggs v, value v)) (range_with_len 0 n)) all
    ∙ sym (zip_with h aggs value c.requires.long)
