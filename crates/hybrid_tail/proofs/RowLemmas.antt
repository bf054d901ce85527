-- The rows of an iteration past the cut.
use Rattle.std.proofs.Common.{◌≡◌, ℕ, ℤ, ◌+◌, ◌-◌, ◌<◌, Bool, true, false, not, ◌&&◌}
use Rattle.std.proofs.Common.{cond, List, map, filter, refl, sym, ap, ◌∙◌, subst}
use Rattle.std.proofs.Common.{arith}
use Rattle.std.specs.List.{All, range_with_len}
use Rattle.std.proofs.lemmas.List.{get_or_default}
use Rattle.std.specs.Cmp.Lexicographic.{pointwise}
use Rattle.std.specs.Ordering.{int_eq}
use Rattle.bolt_base.specs.Graph.{Graph, vertices}
use Rattle.bolt_base.specs.Keep.{Entry}
use Rattle.vertex_expr.specs.declared.program.ProgramEntries.{ProgramEntries}
use Rattle.run_model.specs.Additions.{adds_of, items}
use Rattle.run_model.specs.Program.{is_sum}
use Rattle.run_model.specs.Refined.{aggs_again, with_words}
use Rattle.run_model.specs.Rows.{Lists, aggr, applied, at, gathered, row}
use Rattle.run_model.specs.Steps.{Step, active, is_active, is_tail_applied, is_target, tail_step}
use Rattle.run_model.specs.Steps.{tail_targets, targets}
use Rattle.run_model.proofs.Iteration.{row_is}
use Rattle.run_model.proofs.Known.{active_applied}
use Rattle.run_model.proofs.RefinedRows.{tail_rows_go_on}
use Rattle.run_model.proofs.Refinement.{is_tail, tail_entries_stay}
use Rattle.run_model.proofs.RowLemmas.{aggregates_whole, values_whole}
use Rattle.run_model.proofs.Still.{same_value}
use Rattle.refine_rows.specs.Picked.{vertices_where}
use Rattle.refine_rows.proofs.PickLemmas.{agree_within, filter_both, picked_where}
use Rattle.hybrid_tail.specs.Setting.{with_each}
use Rattle.hybrid_tail.specs.TailStep.{CanGoOn, IsNext}
use Rattle.hybrid_tail.specs.declared.rows.TailRows.{TailRows}
use Rattle.hybrid_tail.proofs.SetLemmas.{each_makes, each_where}

-- all that are picked lie below
pub all_picked : (n : ℕ) (p : ℕ → Bool) (vs : List ℕ) → vs ≡ vertices_where n p
    → All (λ v. v < n) vs
all_picked n p vs is = subst (All (λ v. v < n)) (sym is) (λ k d l.
    subst (λ v. v < n) (get_or_default (vertices_where n p) k 0 d l)
    (picked_where n p k l).below)

module _ (p : ProgramEntries) (h : Graph) (i : ℕ) (on : CanGoOn p h i) where
  abbrev s : Step
  s = tail_step p h i

  aggs_are : aggs_again p s (aggr p h (i - 1)) ≡ aggr p h i
  aggs_are =
      let e : i - 1 - 1 ≡ i - 2 = omega arith in
      (tail_rows_go_on p h on.safe on.good i on.some (aggr p h (i - 1)) (row p h (i - 1))
      (row p h (i - 2))
      (record { aggregates = refl; values = refl; before = sym (ap (row p h) e) })).aggregates

  -- ---- aggregates
  pub sums_made : is_sum p.combine ≡ true → (old new : Lists) (us : List ℕ) → old ≡ aggr p h (i - 1)
      → us ≡ targets p s
      → new ≡ with_each (λ v. with_words p (adds_of p s (items p s)) (at old v) v) us old
      → new ≡ aggr p h i
  sums_made sum old new us before are made =
      let f : (Lists → ℕ → List ℤ) = λ xs v. with_words p (adds_of p s (items p s)) (at xs v) v in
      made
      ∙ (λ j. with_each (f (before j)) (are j) (before j))
      ∙ each_where (vertices h) (is_target p s) (f (aggr p h (i - 1))) (aggr p h (i - 1))
      (aggregates_whole p h (i - 1)).each_vertex
      ∙ (λ j. map (λ v. cond (is_target p s v)
      (cond (sym sum j) (f (aggr p h (i - 1)) v) (gathered p h (row p h (i - 1)) v))
      (at (aggr p h (i - 1)) v)) (range_with_len 0 (vertices h)))
      ∙ aggs_are

  pub pulls_made : is_sum p.combine ≡ false → (old new : Lists) (us : List ℕ)
      → old ≡ aggr p h (i - 1) → us ≡ tail_targets p h i
      → new ≡ with_each (gathered p h (row p h (i - 1))) us old → new ≡ aggr p h i
  pulls_made pull old new us before are made =
      let f : (ℕ → List ℤ) = gathered p h (row p h (i - 1)) in
      let words : (ℕ → List ℤ) = λ v. with_words p (adds_of p s (items p s))
      (at (aggr p h (i - 1)) v) v in
      made
      ∙ (λ j. with_each f ((are ∙ sym (is_tail p h i).ends) j) (before j))
      ∙ each_where (vertices h) (is_target p s) f (aggr p h (i - 1))
      (aggregates_whole p h (i - 1)).each_vertex
      ∙ (λ j. map (λ v. cond (is_target p s v) (cond (sym pull j) (words v) (f v))
      (at (aggr p h (i - 1)) v)) (range_with_len 0 (vertices h)))
      ∙ aggs_are

  -- ---- values
  pub last_made : (old new : Lists) (us : List ℕ) → old ≡ row p h (i - 2) → us ≡ active p h i
      → new ≡ with_each (at (row p h (i - 1))) us old → new ≡ row p h (i - 1)
  last_made old new us before are made =
      made ∙ (λ j. with_each (at (row p h (i - 1))) (are j) (before j))
      ∙ each_makes (vertices h) (is_active p h i) (at (row p h (i - 1))) (row p h (i - 2))
      (row p h (i - 1)) (values_whole p h (i - 2)).each_vertex
      (values_whole p h (i - 1)).each_vertex (λ v small t. refl)
      (λ v small t. same_value s v t)

  pub values_made : (old new : Lists) (us : List ℕ) → old ≡ row p h (i - 1)
      → us ≡ vertices_where (vertices h) (is_tail_applied p h i)
      → new ≡ with_each (λ v. applied p h (at (aggr p h i) v) (at (row p h (i - 1)) v) v) us old
      → new ≡ row p h i
  values_made old new us before are made =
      let f : (ℕ → List ℤ) = λ v. applied p h (at (aggr p h i) v) (at (row p h (i - 1)) v) v in
      let some = on.some in
      made ∙ (λ j. with_each f (are j) (before j))
      ∙ each_makes (vertices h) (is_tail_applied p h i) f (row p h (i - 1)) (row p h i)
      (values_whole p h (i - 1)).each_vertex (values_whole p h i).each_vertex
      (λ v small t. row_is p h i v (omega arith) small)
      (λ v small t. ap (λ (e : Entry). e.1) (tail_entries_stay p h i on.good v on.some small t))

  -- ---- vertices whose value changed
  implied : (a b : Bool) → (b ≡ true → a ≡ true) → (a && b) ≡ b
  implied true b e = refl
  implied false true e = e refl
  implied false false e = refl

  pub moved_made : (moved us : List ℕ) (last vals : Lists) → last ≡ row p h (i - 1)
      → vals ≡ row p h i → us ≡ vertices_where (vertices h) (is_tail_applied p h i)
      → moved ≡ filter (λ v. not (pointwise int_eq (at last v) (at vals v))) us
      → moved ≡ active p h (i + 1)
  moved_made moved us last vals before now are made =
      let some = on.some in
      let d : i - 1 ≡ i + 1 - 2 = omega arith in
      let e : i ≡ i + 1 - 1 = omega arith in
      let test : (ℕ → Bool) = is_active p h (i + 1) in
      made
      ∙ (λ j. filter (λ v. not (pointwise int_eq (at ((before ∙ ap (row p h) d) j) v)
      (at ((now ∙ ap (row p h) e) j) v))) (are j))
      ∙ filter_both (is_tail_applied p h i) test (range_with_len 0 (vertices h))
      ∙ agree_within (vertices h) 0 (λ v. is_tail_applied p h i v && test v) test
      (λ v low high. implied (is_tail_applied p h i v) (test v)
      (λ t. active_applied p h on.good i v on.some (omega arith) t))

  pub next_made : (rows : TailRows) → rows.aggs.items ≡ aggr p h i → rows.vals.items ≡ row p h i
      → rows.last.items ≡ row p h (i - 1) → rows.moved.items ≡ active p h (i + 1)
      → IsNext p h (i + 1) rows
  next_made rows aggs vals last moved =
      let d : i - 1 ≡ i + 1 - 2 = let some = on.some in omega arith in
      let e : i ≡ i + 1 - 1 = omega arith in
      record {
        aggs = aggs ∙ ap (aggr p h) e;
        vals = vals ∙ ap (row p h) e;
        last = last ∙ ap (row p h) d;
        moved = moved;
      }
