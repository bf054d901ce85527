-- Numbers that are added in place, lane by lane.
use Rattle.std.proofs.Common.{◌≡◌, ℕ, ℤ, pos, ◌+◌, ◌<◌, ◌≤◌, List, length, map, set, sym, ap, ◌∙◌}
use Rattle.std.proofs.Common.{arith, inl, inr, refl, length-set}
use Rattle.std.specs.List.{range_with_len}
use Rattle.std.proofs.lemmas.Bool.{cases_eq}
use Rattle.std.proofs.lemmas.List.{get_or-set_same, get_or-set_other}
use Rattle.std.proofs.lemmas.List.FromFn.{fill_by_all}
use Rattle.vertex_expr.specs.declared.program.Combine.{Combine}
use Rattle.range_check.specs.Gathered.{with_one}
use Rattle.run_model.specs.Program.{number}

module _ (c : Combine) (old ones : List ℤ) where
  abbrev pub added : ℕ → ℤ
  added l = with_one c (number old l) (number ones l)

  -- the first k numbers have theirs added, and the others are the old ones
  pub record IsAdded (k : ℕ) (xs : List ℤ) : Type 0 where
    pub long : length xs ≡ length old
    pub before : (j : ℕ) → j < k → number xs j ≡ added j
    pub rest : (j : ℕ) → k ≤ j → number xs j ≡ number old j

  pub none_added : IsAdded 0 old
  none_added = record { long = refl; before = λ j h. absurd (omega arith); rest = λ j h. refl }

  pub one_added : (k : ℕ) (xs : List ℤ) (x : ℤ) → IsAdded k xs → k < length old
      → x ≡ with_one c (number xs k) (number ones k) → IsAdded (k + 1) (set xs k x)
  one_added k xs x so small is =
      let long = so.long in
      record {
        long = length-set xs k x ∙ so.long;
        before = λ j h. elim (cases_eq j k) [
          | inl same ↦ ap (λ i. number (set xs k x) i) same
              ∙ get_or-set_same xs k x (pos 0) (omega arith) ∙ is
              ∙ ap (λ z. with_one c z (number ones k)) (so.rest k (omega arith))
              ∙ ap added (sym same)
          | inr apart ↦ get_or-set_other xs k j x (pos 0) apart ∙ so.before j (omega arith)
        ];
        rest = λ j h. get_or-set_other xs k j x (pos 0) (λ same. omega arith)
            ∙ so.rest j (omega arith);
      }

  pub all_added : (n k : ℕ) (xs : List ℤ) → length old ≡ n → IsAdded k xs → n ≤ k
      → xs ≡ map added (range_with_len 0 n)
  all_added n k xs size so past = fill_by_all added xs n (pos 0) (so.long ∙ size)
      (λ j small. so.before j (omega arith))
