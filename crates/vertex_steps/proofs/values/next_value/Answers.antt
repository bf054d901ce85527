use Rattle.std.proofs.Common.{rules, ◌≡◌, ℕ, ℤ, pos, List, length, replicate, sym, ap, ◌∙◌, subst}
use Rattle.std.proofs.Common.{FitsSigned, w64, to_z, of_z}
use Rattle.std.proofs.lemmas.Int.{to_z-of_z}
use Rattle.bolt_base.specs.Change.{attr_at}
use Rattle.bolt_base.specs.Graph.{Graph}
use Rattle.vertex_expr.specs.Meaning.{ev}
use Rattle.vertex_expr.specs.declared.program.ProgramEntries.{ProgramEntries}
use Rattle.range_check.specs.Laws.{tree_at}
use Rattle.run_model.specs.Evaluable.{AreEvaluable}
use Rattle.run_model.specs.Program.{lanes, params, by_lane, zeros}
use Rattle.run_model.specs.Rows.{apply_env}
use Rattle.run_model.proofs.Evaluations.{apply_evaluable}
use Rattle.vertex_steps.proofs.Applying.{apply_inside}
use Rattle.vertex_steps.proofs.values.next_value.Goals as goal

env_is : (p : ProgramEntries) (h : Graph) (v : ℕ) (zs agg val : List ℤ) (a : ℤ)
    → zs ≡ zeros p → a ≡ attr_at h v
    → record { val = zs; agg = agg; old = val; outdeg = 0; weight = pos 0; attr = a; id = v }
    ≡ apply_env p h agg val v
env_is p h v zs agg val a r u = λ j.
    record { val = r j; agg = agg; old = val; outdeg = 0; weight = pos 0; attr = u j; id = v }

pub evaluated-requires : goal.evaluated-requires
evaluated-requires g c =
    let p : ProgramEntries = c.args.program.now in
    let h : Graph = g.A.Adjacency.plain c.args.graph.now in
    let v : ℕ = c.args.v in
    let agg : List ℤ = c.args.agg.now in
    let val : List ℤ = c.args.before.now in
    let len : c.len.result ≡ lanes p = c.len.ensures
    ∙ ap (λ (x : ProgramEntries). length x.ranges) c.entries-entries.ensures.entries in
    let attr : FitsSigned w64 c.attr.result = search rules in
    let same = env_is p h v c.zeros-zeros.result agg val (to_z w64 (of_z w64 c.attr.result))
    (c.zeros-zeros.ensures ∙ ap (λ n. replicate n (pos 0)) len)
    (to_z-of_z w64 c.attr.result attr ∙ c.attr.ensures) in
    record {
      evaluable = subst (λ n. AreEvaluable p n c.entries-entries.result.now.apply) (sym same)
          (subst (λ (x : ProgramEntries). AreEvaluable p (apply_env p h agg val v) x.apply)
          (sym c.entries-entries.ensures.entries)
          (apply_evaluable p c.requires.safe (apply_env p h agg val v)
          (apply_inside p h c.requires.safe c.requires.good agg val c.requires.agg
          c.requires.before v c.requires.vertex)));
    }

pub returns : goal.returns
returns g c =
    let p : ProgramEntries = c.args.program.now in
    let h : Graph = g.A.Adjacency.plain c.args.graph.now in
    let v : ℕ = c.args.v in
    let len : c.len.result ≡ lanes p = c.len.ensures
    ∙ ap (λ (x : ProgramEntries). length x.ranges) c.entries-entries.ensures.entries in
    let attr : FitsSigned w64 c.attr.result = search rules in
    let same = env_is p h v c.zeros-zeros.result c.args.agg.now c.args.before.now
    (to_z w64 (of_z w64 c.attr.result))
    (c.zeros-zeros.ensures ∙ ap (λ n. replicate n (pos 0)) len)
    (to_z-of_z w64 c.attr.result attr ∙ c.attr.ensures) in
    record {
      value = c.evaluated.ensures.numbers
          ∙ (λ j. by_lane p
          (λ l. ev (params p) (same j)
          (tree_at (ap (λ (x : ProgramEntries). x.apply) c.entries-entries.ensures.entries j) l)));
    }
