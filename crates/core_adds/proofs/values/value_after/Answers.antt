use Rattle.std.proofs.Common.{ℕ, [], sym, ◌∙◌, subst, arith}
use Rattle.std.proofs.lemmas.List.{get_or_read}
use Rattle.bolt_base.specs.Graph.{Graph}
use Rattle.vertex_expr.specs.ProgramBounds.{aggregated, lane_spans}
use Rattle.vertex_expr.specs.Span.{AreIn}
use Rattle.vertex_expr.specs.declared.program.ProgramEntries.{ProgramEntries}
use Rattle.run_model.specs.Rows.{Lists, applied}
use Rattle.run_model.proofs.InRange.{gathered_in}
use Rattle.core_adds.proofs.values.value_after.Goals as goal

pub next_value-requires-clause-agg : goal.next_value-requires-clause-agg
next_value-requires-clause-agg g c =
    let p : ProgramEntries = c.args.program.now in
    let h : Graph = g.A.Adjacency.plain c.args.graph.now in
    let before = c.requires.before in
    subst (AreIn (aggregated p)) (sym c.aggregate-agg.ensures)
    (gathered_in p h before.safe before.good c.args.vals.now before.ranged c.args.v)

pub next_value-requires-clause-before : goal.next_value-requires-clause-before
next_value-requires-clause-before g c =
    let p : ProgramEntries = c.args.program.now in
    let before = c.requires.before in
    let there = c.requires.vertex in
    let whole = before.long in
    subst (AreIn (lane_spans p.ranges))
    (sym (get_or_read c.args.vals.now c.args.v c.index-vals-v.result (omega arith)
    c.index-vals-v.is []))
    (before.ranged c.args.v there)

pub returns : goal.returns
returns g c =
    let p : ProgramEntries = c.args.program.now in
    let h : Graph = g.A.Adjacency.plain c.args.graph.now in
    let v : ℕ = c.args.v in
    let vals : Lists = c.args.vals.now in
    let there = c.requires.vertex in
    let whole = c.requires.before.long in
    let val = get_or_read vals v c.index-vals-v.result (omega arith) c.index-vals-v.is [] in
    c.next_value.ensures.value ∙ (λ j. applied p h (c.aggregate-agg.ensures j) (val j) v)
