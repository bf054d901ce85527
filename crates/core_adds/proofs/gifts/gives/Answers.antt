use Rattle.std.proofs.Common.{rules, ℤ, sym, subst, FitsSigned, w64}
use Rattle.std.proofs.lemmas.Int.{to_z-of_z}
use Rattle.bolt_base.specs.Graph.{Graph}
use Rattle.vertex_expr.specs.declared.program.ProgramEntries.{ProgramEntries}
use Rattle.run_model.specs.Evaluable.{AreEvaluable}
use Rattle.run_model.specs.Rows.{Lists, contribute_env}
use Rattle.run_model.proofs.GivenLemmas.{edge_evaluable}
use Rattle.core_adds.proofs.gifts.gives.Goals as goal

pub evaluated_at-requires-clause-evaluable : goal.evaluated_at-requires-clause-evaluable
evaluated_at-requires-clause-evaluable g c =
    let p : ProgramEntries = c.args.program.now in
    let h : Graph = g.A.Adjacency.plain c.args.graph.now in
    let vals : Lists = c.args.vals.now in
    let fits : FitsSigned w64 c.args.e.weight = search rules in
    subst (λ (w : ℤ). AreEvaluable p
    (contribute_env p h vals (record { src = c.args.e.src; dst = 0; weight = w }))
    p.contribute) (sym (to_z-of_z w64 c.args.e.weight fits))
    (edge_evaluable p h vals c.requires.before c.args.e c.requires.edge)
