use Rattle.std.proofs.Common.{◌≡◌, ap, sym, ◌∙◌}
use Rattle.bolt_base.specs.Graph.{Graph}
use Rattle.vertex_expr.specs.declared.program.ProgramEntries.{ProgramEntries}
use Rattle.refine_rows.specs.RowValues.{new_values}
use Rattle.pull_reeval.specs.Iterating.{aggs_of, vals_of}
use Rattle.pull_reeval.proofs.NewRows.{applied_are, can_apply}
use Rattle.pull_reeval.proofs.iteration.pull_iteration.Goals as goal

pub next_values-requires-clause-ready : goal.next_values-requires-clause-ready
next_values-requires-clause-ready g c κs within =
    let p : ProgramEntries = c.args.program.now in
    let was : Graph = g.O.OldGraph.graph in
    let now : Graph = g.A.Adjacency.plain c.args.graph.now in
    let same : c.deref-2.result.now ≡ c.deref-4.result.now =
    c.deref-2.ensures.value ∙ sym c.deref-4.ensures.value in
    can_apply p was now c.args.i c.requires.ready.some c.requires.ready.net.over
    c.deref-4.result.now (c.deref-4.ensures.value ∙ c.in_ok-applied.ensures)
    (new_values c.new-row.result) c.deref-5.result.now c.new-row.ensures
    (c.deref-5.ensures.value ∙ c.in_ok-aggs.ensures ∙ ap (aggs_of p now c.args.i) same)

pub put_all-requires-clause-vals : goal.put_all-requires-clause-vals
put_all-requires-clause-vals g c =
    let p : ProgramEntries = c.args.program.now in
    let was : Graph = g.O.OldGraph.graph in
    let now : Graph = g.A.Adjacency.plain c.args.graph.now in
    let same : c.deref-2.result.now ≡ c.deref-4.result.now =
    c.deref-2.ensures.value ∙ sym c.deref-4.ensures.value in
    applied_are p was now c.args.i c.requires.ready.some c.requires.ready.net.over
    c.deref-4.result.now (c.deref-4.ensures.value ∙ c.in_ok-applied.ensures)
    (new_values c.new-row.result) c.deref-5.result.now c.new-row.ensures
    (c.deref-5.ensures.value ∙ c.in_ok-aggs.ensures ∙ ap (aggs_of p now c.args.i) same)
    c.deref-8.result.now (c.deref-8.ensures.value ∙ c.in_ok-vals.ensures)
    ∙ ap (vals_of p now c.args.i) (c.deref-4.ensures.value ∙ sym c.deref-6.ensures.value)
