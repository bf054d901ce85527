-- Edits of a row page by page.
use Rattle.std.proofs.Common.{◌≡◌, ℕ, ℤ, pos, zero, suc, inl, inr, ◌+◌, ◌-◌, ◌<◌, ◌≤◌, T, List, []}
use Rattle.std.proofs.Common.{◌∷◌, ◌++◌, length, take, drop, Option, refl, sym, ap, ◌∙◌, subst}
use Rattle.std.proofs.Common.{arith}
use Rattle.std.specs.Ordering.{nat_cmp}
use Rattle.std.specs.List.{All}
use Rattle.std.specs.FinMap as finite
use Rattle.std.specs.FinMap.{is_sorted}
use Rattle.std.proofs.lemmas.Bool.{cases_lt}
use Rattle.std.proofs.lemmas.List.{take_all}
use Rattle.std.proofs.lemmas.List.Elements.{All-nil, All-weaker, All-take}
use Rattle.adjacency.specs.Row.{RowMap, row_map, IsRow}
use Rattle.adjacency.specs.Merge.{merged}
use Rattle.adjacency.proofs.RowLemmas.{entries_row, map_nil}
use Rattle.adjacency.proofs.PatchLemmas.{row_merged}
use Rattle.adj_pages.specs.Index.{Mark, mark_at, marked, IsIndex, IsCut, IsNextCut}
use Rattle.adj_pages.proofs.SortedLemmas.{take_more}
use Rattle.adj_pages.proofs.SplitLemmas.{merged_parts}
use Rattle.adj_pages.proofs.IndexLemmas.{marked_next, first_below, first_from, first_rises}
use Rattle.adj_pages.proofs.IndexLemmas.{row_upto}

-- the edits of the pages before the i-th were made
pub record IsDone (ms : List Mark) (es : List (ℕ × Option ℤ)) (i from : ℕ) (done : List (ℕ × ℤ)) :
    Type 0 where
  pub within : from ≤ length es
  pub start : i ≡ 0 → from ≡ 0
  pub cut : 0 < i → i < length ms → IsCut (mark_at ms i).first from es
  pub all : 0 < i → length ms ≤ i → from ≡ length es
  pub is : done ≡ merged (marked (take i ms)) (take from es)

pub nothing_done : (ms : List Mark) (es : List (ℕ × Option ℤ)) (done : RowMap) → done
    ≡ finite.empty → IsDone ms es 0 0 (finite.entries done)
nothing_done ms es done e = record {
  within = omega arith;
  start = λ _. refl;
  cut = λ l. absurd (omega (arith, l));
  all = λ l. absurd (omega (arith, l));
  is = ap finite.entries (e ∙ sym map_nil) ∙ entries_row [] (record { rising = tt });
}

module _ (ms : List Mark) (n : ℕ) (index : IsIndex ms n) (es : List (ℕ × Option ℤ)) where
  module _ (i from : ℕ) (done : List (ℕ × ℤ)) (d : IsDone ms es i from done) (l : i < length ms)
    where
      pub passed_next : suc i < length ms
          → All (λ (e : ℕ × Option ℤ). e.0 < (mark_at ms (suc i)).first) (take from es)
      passed_next more = elim (cases_lt 0 i) [
        | inl later ↦ let c = d.cut later l in let up = first_rises ms n index i more in All-weaker
            (λ (e : ℕ × Option ℤ). e.0 < (mark_at ms i).first)
            (λ (e : ℕ × Option ℤ). e.0 < (mark_at ms (suc i)).first)
            (λ e h. omega (arith, h, up)) (take from es) c.below
        | inr first ↦ subst (λ k. All (λ (e : ℕ × Option ℤ). e.0 < (mark_at ms (suc i)).first)
            (take k es)) (sym (d.start (omega (arith, first))))
            (All-nil (λ (e : ℕ × Option ℤ). e.0 < (mark_at ms (suc i)).first))
      ]

      module _ (upto : ℕ) (c : IsNextCut ms i es from upto) where
        abbrev portion : List (ℕ × Option ℤ)
        portion = take (upto - from) (drop from es)

        edits_upto : take upto es ≡ take from es ++ portion
        edits_upto = ap (λ k. take k es)
            (let e : upto ≡ from + (upto - from) = omega (arith, c.later) in e)
            ∙ take_more from (upto - from) es

        done_is : done ++ merged (finite.entries (mark_at ms i).arcs) portion
            ≡ merged (marked (take (suc i) ms)) (take upto es)
        done_is =
            ap (λ xs. xs ++ merged (finite.entries (mark_at ms i).arcs) portion) d.is
            ∙ (elim (cases_lt 0 i) [
              | inl later ↦
                  let k = d.cut later l in
                  sym (merged_parts (mark_at ms i).first (marked (take i ms))
                  (finite.entries (mark_at ms i).arcs) (take from es) portion
                  (first_below ms n index i l) (first_from ms n index i l) k.below
                  (All-take (λ (e : ℕ × Option ℤ). (mark_at ms i).first ≤ e.0) (upto - from)
                  (drop from es) k.above))
              | inr first ↦
                  let z : i ≡ 0 = omega (arith, first) in
                  ap (λ j. merged (marked (take j ms)) (take from es)
                  ++ merged (finite.entries (mark_at ms i).arcs) portion) z
                  ∙ ap (λ f. merged [] (take f es)
                  ++ merged (finite.entries (mark_at ms i).arcs) portion) (d.start z)
                  ∙ sym (ap (λ j. merged (marked (take j ms) ++ finite.entries (mark_at ms i).arcs)
                  (take from es ++ portion)) z
                  ∙ ap (λ f. merged (finite.entries (mark_at ms i).arcs)
                  (take f es ++ portion)) (d.start z))
            ])
            ∙ ap (λ xs. merged xs (take from es ++ portion)) (sym (marked_next ms i l))
            ∙ ap (merged (marked (take (suc i) ms))) (sym edits_upto)

        pub done_step : IsDone ms es (suc i) upto
            (done ++ merged (finite.entries (mark_at ms i).arcs) portion)
        done_step = record {
          within = c.within;
          start = λ e. absurd (omega (arith, e));
          cut = λ _ more. c.cut more;
          all = λ _ last. c.all last;
          is = done_is;
        }

        pub done_rising : IsRow (done ++ merged (finite.entries (mark_at ms i).arcs) portion)
        done_rising = subst IsRow (sym done_is)
            (row_merged (marked (take (suc i) ms)) (take upto es) (row_upto ms n index i l))

  pub all_done : (from : ℕ) (done : List (ℕ × ℤ)) → 0 < length ms
      → IsDone ms es (length ms) from done → done ≡ merged (marked ms) es
  all_done from done l d =
      d.is ∙ ap (λ xs. merged (marked xs) (take from es)) (take_all (length ms) ms (omega arith))
      ∙ ap (merged (marked ms)) (ap (λ k. take k es) (d.all l (omega arith))
      ∙ take_all (length es) es (omega arith))
