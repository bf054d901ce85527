-- Iteration after iteration.
use Rattle.std.proofs.Common.{◌≡◌, ℕ, zero, suc, ◌+◌, ◌-◌, ◌<◌, ◌≤◌, cond, List, [], ◌∷◌, ◌++◌}
use Rattle.std.proofs.Common.{sym, ap, ◌∙◌, arith, append-nil}
use Rattle.std.specs.List.{flat_map, range_with_len}
use Rattle.std.proofs.lemmas.List.{append_assoc}
use Rattle.std.proofs.lemmas.List.Concat.{flat_map-append}
use Rattle.bolt_base.specs.Graph.{Graph}
use Rattle.bolt_base.specs.Residue.{Amount}
use Rattle.vertex_expr.specs.declared.program.Combine.TheVariants.{Sum}
use Rattle.vertex_expr.specs.declared.program.ProgramEntries.{ProgramEntries}
use Rattle.run_model.specs.Program.{is_sum}
use Rattle.run_model.specs.Steps.{Step, step}
use Rattle.run_model.specs.Visits.{pull_visits, refine_visits, step_visits, sum_visits}
use Rattle.run_model.proofs.VisitLemmas.{refine_more, visits_of_items}
use Rattle.edge_map.specs.Additions.{task_visits}
use Rattle.edge_map.specs.TaskLaws.{AreTasksOf}
use Rattle.edge_map.specs.declared.tasks.Tasks.{Tasks}
use Rattle.edge_map.proofs.SameTasks.{visits_same}
use Rattle.sum_steps.specs.Taken.{iteration_amounts}
use Rattle.refine_rows.proofs.PickLemmas.{range_next}
use Rattle.retract_propagate.specs.Refinement.{refine_amounts}

-- ---- visits
pub task_reads : (p : ProgramEntries) (s : Step) (t : Tasks) → p.combine ≡ Sum
    → AreTasksOf p s t → task_visits t ≡ step_visits p s
task_reads p s t sum are = visits_same p s t are ∙ visits_of_items p s
    ∙ sym (ap (λ c. cond (is_sum c) (sum_visits p s) (pull_visits p s)) sum)

module _ (p : ProgramEntries) (g h : Graph) where
  visits_grow : (m k : ℕ) → refine_visits p g h k ≤ refine_visits p g h (k + m)
  visits_grow zero k =
      let same = ap (refine_visits p g h) (let e : k ≡ k + zero = omega arith in e) in omega arith
  visits_grow (suc m) k =
      let rest = visits_grow m k in
      let more = refine_more p g h (k + m) in
      let same = ap (refine_visits p g h) (let e : k + m + 1 ≡ k + suc m = omega arith in e) in
      omega arith

  pub visits_within : (k cut : ℕ) → k < cut
      → refine_visits p g h k + step_visits p (step p g h (k + 1)) ≤ refine_visits p g h cut
  visits_within k cut low =
      let more = refine_more p g h k in
      let rest = visits_grow (cut - (k + 1)) (k + 1) in
      let same = ap (refine_visits p g h)
      (let e : k + 1 + (cut - (k + 1)) ≡ cut = omega arith in e) in
      omega arith

  pub visits_so_far : (k cut : ℕ) → k ≤ cut
      → refine_visits p g h k ≤ refine_visits p g h cut
  visits_so_far k cut low =
      let rest = visits_grow (cut - k) k in
      let same = ap (refine_visits p g h) (let e : k + (cut - k) ≡ cut = omega arith in e) in
      omega arith

  -- ---- amounts
  pub amounts_grow : (k : ℕ) → refine_amounts p g h (k + 1)
      ≡ refine_amounts p g h k ++ iteration_amounts p (step p g h (k + 1))
  amounts_grow k =
      let f : (ℕ → List Amount) = λ i. iteration_amounts p (step p g h i) in
      let next : range_with_len 1 (k + 1) ≡ range_with_len 1 k ++ (k + 1) ∷ [] =
      ap (range_with_len 1) (let e : k + 1 ≡ k + 1 + 1 - 1 = omega arith in e)
      ∙ range_next 1 (k + 1) (omega arith)
      ∙ ap (λ n. range_with_len 1 n ++ (k + 1) ∷ []) (let e : k + 1 - 1 ≡ k = omega arith in e) in
      ap (flat_map f) next
      ∙ flat_map-append f (range_with_len 1 k) ((k + 1) ∷ [])
      ∙ ap (λ l. refine_amounts p g h k ++ l) (append-nil (f (k + 1)))

  pub amounts_more : (k : ℕ) (start before after : List Amount)
      → before ≡ start ++ refine_amounts p g h k
      → after ≡ before ++ iteration_amounts p (step p g h (k + 1))
      → after ≡ start ++ refine_amounts p g h (k + 1)
  amounts_more k start before after was grown =
      grown ∙ ap (λ l. l ++ iteration_amounts p (step p g h (k + 1))) was
      ∙ append_assoc start (refine_amounts p g h k) (iteration_amounts p (step p g h (k + 1)))
      ∙ ap (λ l. start ++ l) (sym (amounts_grow k))
