-- The visits of the iterations so far.
use Rattle.std.proofs.Common.{◌≡◌, ℕ, zero, suc, ◌+◌, ◌-◌, ◌≤◌, subst, arith}
use Rattle.bolt_base.specs.Graph.{Graph}
use Rattle.vertex_expr.specs.declared.program.ProgramEntries.{ProgramEntries}
use Rattle.run_model.specs.Steps.{step}
use Rattle.run_model.specs.Visits.{refine_visits, step_visits}
use Rattle.run_model.proofs.VisitLemmas.{refine_more}

module _ (p : ProgramEntries) (g h : Graph) where
  -- one more iteration
  pub one_more_iteration : (i : ℕ) → 1 ≤ i
      → refine_visits p g h i ≡ refine_visits p g h (i - 1) + step_visits p (step p g h i)
  one_more_iteration i some =
      subst (λ k. refine_visits p g h k
      ≡ refine_visits p g h (i - 1) + step_visits p (step p g h k))
      (let e : i - 1 + 1 ≡ i = omega arith in e) (refine_more p g h (i - 1))

  more_later : (i n : ℕ) → refine_visits p g h i ≤ refine_visits p g h (i + n)
  more_later i zero = subst (λ k. refine_visits p g h i ≤ refine_visits p g h k)
      (let e : i ≡ i + zero = omega arith in e) (omega arith)
  more_later i (suc n) =
      let so_far = more_later i n in
      let more = refine_more p g h (i + n) in
      subst (λ k. refine_visits p g h i ≤ refine_visits p g h k)
      (let e : i + n + 1 ≡ i + suc n = omega arith in e) (omega arith)

  -- those up to an iteration are within those up to the cut
  pub visits_within : (i cut : ℕ) → i ≤ cut → refine_visits p g h i ≤ refine_visits p g h cut
  visits_within i cut low =
      subst (λ k. refine_visits p g h i ≤ refine_visits p g h k)
      (let e : i + (cut - i) ≡ cut = omega arith in e) (more_later i (cut - i))
