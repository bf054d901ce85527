use Rattle.std.proofs.Common.{rules, ◌≡◌, ◌≤◌, ℕ, ℤ, ap, ◌∙◌, sym, subst, FitsSigned, w64, to_z}
use Rattle.std.proofs.Common.{of_z}
use Rattle.std.proofs.lemmas.Int.{to_z-of_z}
use Rattle.bolt_base.specs.Graph.{Graph, outdeg}
use Rattle.vertex_expr.specs.declared.program.ProgramEntries.{ProgramEntries}
use Rattle.run_model.specs.Evaluable.{AreEvaluable}
use Rattle.run_model.specs.Rows.{Lists, contribute_env}
use Rattle.run_model.specs.Given.{edge_of}
use Rattle.run_model.proofs.GivenLemmas.{edge_evaluable, least_edge}
use Rattle.vertex_steps.proofs.contributions.source_gives.Goals as goal

pub evaluated_at-requires-clause-evaluable : goal.evaluated_at-requires-clause-evaluable
evaluated_at-requires-clause-evaluable g c =
    let p : ProgramEntries = c.args.program.now in
    let h : Graph = g.A.Adjacency.plain c.args.graph.now in
    let vals : Lists = g.V.ValueRow.values c.args.row.now in
    let u : ℕ = c.args.u in
    let fits : FitsSigned w64 p.limits.weight_lo =
    c.requires.before.safe.writable.limits.weight.lo_fits in
    let is : to_z w64 (of_z w64 c.entries-2.result.now.limits.weight_lo) ≡ p.limits.weight_lo =
    ap (λ (x : ProgramEntries). to_z w64 (of_z w64 x.limits.weight_lo)) c.entries-2.ensures.entries
    ∙ to_z-of_z w64 p.limits.weight_lo fits in
    let some : 1 ≤ outdeg h u = search rules in
    subst (λ (w : ℤ). AreEvaluable p
    (contribute_env p h vals (record { src = u; dst = 0; weight = w })) p.contribute)
    (sym is)
    (edge_evaluable p h vals c.requires.before (edge_of p u)
    (least_edge p h vals c.requires.before u c.requires.source some))
