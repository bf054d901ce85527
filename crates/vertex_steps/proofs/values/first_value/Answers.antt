use Rattle.std.proofs.Common.{rules, ◌≡◌, ℕ, ℤ, pos, List, length, replicate, sym, ap, ◌∙◌, subst}
use Rattle.std.proofs.Common.{FitsSigned, w64, to_z, of_z}
use Rattle.std.proofs.lemmas.Int.{to_z-of_z}
use Rattle.bolt_base.specs.Change.{attr_at}
use Rattle.bolt_base.specs.Graph.{Graph}
use Rattle.vertex_expr.specs.declared.program.ProgramEntries.{ProgramEntries}
use Rattle.run_model.specs.Evaluable.{AreEvaluable}
use Rattle.run_model.specs.Program.{lanes, zeros}
use Rattle.run_model.specs.Rows.{init_env}
use Rattle.run_model.proofs.Evaluations.{init_evaluable}
use Rattle.run_model.proofs.InRange.{init_in}
use Rattle.vertex_steps.proofs.values.first_value.Goals as goal

env_is : (p : ProgramEntries) (h : Graph) (v : ℕ) (zs : List ℤ) (a : ℤ) → zs ≡ zeros p
    → a ≡ attr_at h v
    → record { val = zs; agg = zs; old = zs; outdeg = 0; weight = pos 0; attr = a; id = v }
    ≡ init_env p h v
env_is p h v zs a r u = λ j.
    record { val = r j; agg = r j; old = r j; outdeg = 0; weight = pos 0; attr = u j; id = v }

pub evaluated-requires : goal.evaluated-requires
evaluated-requires g c =
    let p : ProgramEntries = c.args.program.now in
    let h : Graph = g.A.Adjacency.plain c.args.graph.now in
    let v : ℕ = c.args.v in
    let len : c.len.result ≡ lanes p = c.len.ensures
    ∙ ap (λ (x : ProgramEntries). length x.ranges) c.entries-entries.ensures.entries in
    let attr : FitsSigned w64 c.attr.result = search rules in
    let same = env_is p h v c.zeros-zeros.result (to_z w64 (of_z w64 c.attr.result))
    (c.zeros-zeros.ensures ∙ ap (λ n. replicate n (pos 0)) len)
    (to_z-of_z w64 c.attr.result attr ∙ c.attr.ensures) in
    record {
      evaluable = subst (λ n. AreEvaluable p n c.entries-entries.result.now.init) (sym same)
          (subst (λ (x : ProgramEntries). AreEvaluable p (init_env p h v) x.init)
          (sym c.entries-entries.ensures.entries)
          (init_evaluable p c.requires.safe (init_env p h v)
          (init_in p h c.requires.safe c.requires.good v c.requires.vertex)));
    }
