-- What the iterations past the cut add to the words, and how many edges they read.
use Rattle.std.proofs.Common.{◌≡◌, ℕ, zero, suc, ◌+◌, ◌-◌, ◌<◌, ◌≤◌, inl, inr, Bool, true, false}
use Rattle.std.proofs.Common.{cond, List, [], ◌∷◌, ◌++◌}
use Rattle.std.proofs.Common.{append-nil, ap, ◌∙◌, arith}
use Rattle.std.specs.List.{flat_map, range_with_len}
use Rattle.std.proofs.lemmas.Bool.{cases_lt}
use Rattle.std.proofs.lemmas.List.Concat.{flat_map-append}
use Rattle.bolt_base.specs.Graph.{Graph}
use Rattle.vertex_expr.specs.declared.program.ProgramEntries.{ProgramEntries}
use Rattle.run_model.specs.Additions.{adds_of, items, tail_adds}
use Rattle.run_model.specs.Program.{is_sum}
use Rattle.run_model.specs.Steps.{tail_step, targets}
use Rattle.run_model.specs.Visits.{tail_pull_visits, tail_step_visits, tail_sum_visits}
use Rattle.run_model.specs.Visits.{tail_visits_to}
use Rattle.run_model.proofs.Refinement.{is_tail}
use Rattle.run_model.proofs.VisitLemmas.{tail_more}
use Rattle.sum_steps.specs.Taken.{takes_of}
use Rattle.refine_rows.proofs.PickLemmas.{range_next}
use Rattle.hybrid_tail.specs.TailAmounts.{tail_amounts_to, tail_step_amounts, tail_takes}

module _ (p : ProgramEntries) (h : Graph) (i : ℕ) where
  pub takes_are : (us : List ℕ) → us ≡ targets p (tail_step p h i)
      → takes_of p (adds_of p (tail_step p h i) (items p (tail_step p h i))) us
      ≡ tail_takes p h i
  takes_are us are = λ j. takes_of p ((is_tail p h i).amounts j)
      ((are ∙ (is_tail p h i).ends) j)

  -- by combination
  pub sum_amounts : is_sum p.combine ≡ true
      → tail_step_amounts p h i ≡ tail_adds p h i ++ tail_takes p h i
  sum_amounts sum = ap (λ (b : Bool). cond b (tail_adds p h i ++ tail_takes p h i) []) sum

  pub pull_amounts : is_sum p.combine ≡ false → tail_step_amounts p h i ≡ []
  pull_amounts pull = ap (λ (b : Bool). cond b (tail_adds p h i ++ tail_takes p h i) []) pull

  pub sum_reads : is_sum p.combine ≡ true → tail_step_visits p h i ≡ tail_sum_visits p h i
  sum_reads sum = ap (λ (b : Bool). cond b (tail_sum_visits p h i) (tail_pull_visits p h i)) sum

  pub pull_reads : is_sum p.combine ≡ false → tail_step_visits p h i ≡ tail_pull_visits p h i
  pull_reads pull = ap (λ (b : Bool). cond b (tail_sum_visits p h i) (tail_pull_visits p h i)) pull

-- ---- iteration after iteration
module _ (p : ProgramEntries) (h : Graph) (cut : ℕ) where
  pub amounts_none : tail_amounts_to p h cut cut ≡ []
  amounts_none = ap (λ n. flat_map (tail_step_amounts p h) (range_with_len (cut + 1) n))
      (let e : cut - cut ≡ 0 = omega arith in e)

  pub amounts_more : (i : ℕ) → cut ≤ i
      → tail_amounts_to p h cut (i + 1)
      ≡ tail_amounts_to p h cut i ++ tail_step_amounts p h (i + 1)
  amounts_more i low =
      ap (λ n. flat_map (tail_step_amounts p h) (range_with_len (cut + 1) n))
      (let e : i + 1 - cut ≡ i + 1 + 1 - (cut + 1) = omega arith in e)
      ∙ ap (flat_map (tail_step_amounts p h)) (range_next (cut + 1) (i + 1) (omega arith))
      ∙ flat_map-append (tail_step_amounts p h) (range_with_len (cut + 1) (i + 1 - (cut + 1)))
      ((i + 1) ∷ [])
      ∙ (λ j. flat_map (tail_step_amounts p h) (range_with_len (cut + 1)
      (let e : i + 1 - (cut + 1) ≡ i - cut = omega arith in e j))
      ++ append-nil (tail_step_amounts p h (i + 1)) j)

  -- one iteration more is within all of them
  pub visits_within : (i n : ℕ) → cut ≤ i → i < n
      → tail_visits_to p h cut i + tail_step_visits p h (i + 1) ≤ tail_visits_to p h cut n
  visits_within i zero low high = absurd (omega arith)
  visits_within i (suc n) low high =
      let last = ap (tail_visits_to p h cut) (let e : suc n ≡ n + 1 = omega arith in e)
      ∙ tail_more p h cut n (omega arith) in
      elim (cases_lt i n) [
        | inl more ↦ let within = visits_within i n low more in omega arith
        | inr past ↦
            let e : i ≡ n = omega arith in
            let same = ap (λ k. tail_visits_to p h cut k + tail_step_visits p h (k + 1)) e in
            omega arith
      ]
