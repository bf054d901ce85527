-- A rising list is the filter of a range by what it contains.
use Rattle.std.proofs.Common.{◌≡◌, ℕ, zero, suc, ◌+◌, ◌<◌, ◌≤◌, Bool, false, ◌||◌, cond, eqb}
use Rattle.std.proofs.Common.{List, [], ◌∷◌, filter, length, get_or, refl, sym, ap, ◌∙◌, subst}
use Rattle.std.proofs.Common.{arith, inl, inr, true≢false}
use Rattle.std.specs.List.{All, dedup, list_any, range_with_len}
use Rattle.std.specs.List.Sorted.{IsPermutation, IsSorted, IsStrictlyIncreasing}
use Rattle.std.specs.Ordering.{nat_cmp}
use Rattle.std.proofs.lemmas.Bool.{cases_Bool, cases_eq, eq-eqb, eqb-true, false_from_ne_true}
use Rattle.std.proofs.lemmas.Bool.{ne_eqb}
use Rattle.std.proofs.lemmas.Cmp.{nat_eq_equiv}
use Rattle.std.proofs.lemmas.List.Filters.{All-dedup}
use Rattle.std.proofs.lemmas.List.Kept.{Contains-dedup_nat, Contains-from_dedup}
use Rattle.std.proofs.lemmas.List.Sorted.{All-permutation, list_any-IsPermutation}
use Rattle.std.proofs.lemmas.Map.Keys.{IsStrictlyIncreasing-dedup}
use Rattle.std.proofs.lemmas.Map.Views.{Contains-from_any, list_any-from_Contains}
use Rattle.run_model.proofs.Named.{any-same}

-- each number is at least m, and above those before it
abbrev Rises : ℕ → List ℕ → Type 0
Rises m [] = Unit {0}
Rises m (x ∷ xs) = (m ≤ x) × Rises (x + 1) xs

-- each number is below n
abbrev Below : ℕ → List ℕ → Type 0
Below n [] = Unit {0}
Below n (x ∷ xs) = (x < n) × Below n xs

rises_on : (m : ℕ) (xs : List ℕ) → (0 < length xs → m ≤ get_or xs 0 0)
    → IsStrictlyIncreasing xs → Rises m xs
rises_on m [] first up = tt
rises_on m (x ∷ xs) first up = (
  first (omega arith),
  rises_on (x + 1) xs (λ some. let next = up 0 (omega arith) in omega arith)
      (λ k small. let next : suc k + 1 ≡ suc (k + 1) = omega arith in
      subst (λ j. get_or xs k 0 < get_or (x ∷ xs) j 0) next (up (suc k) (omega arith))),
)

below_all : (n : ℕ) (xs : List ℕ) → All (λ x. x < n) xs → Below n xs
below_all n [] all = tt
below_all n (x ∷ xs) all =
    (all 0 0 (omega arith), below_all n xs (λ k d small. all (suc k) d (omega arith)))

none_before : (v m : ℕ) (xs : List ℕ) → v < m → Rises m xs → list_any (λ x. eqb x v) xs ≡ false
none_before v m [] low up = refl
none_before v m (x ∷ xs) low up =
    let over = up.0 in
    (λ j. ne_eqb x v (λ same. omega arith) j || none_before v (x + 1) xs (omega arith) up.1 j)

-- the numbers from m up to, and without, m + n
pub rising_filter : (q : ℕ → Bool) (n m : ℕ) (xs : List ℕ) → Rises m xs → Below (m + n) xs
    → ((v : ℕ) → m ≤ v → v < m + n → q v ≡ list_any (λ x. eqb x v) xs)
    → filter q (range_with_len m n) ≡ xs
rising_filter q zero m [] up low same = refl
rising_filter q zero m (x ∷ xs) up low same =
    let a = up.0 in let b = low.0 in absurd (omega arith)
rising_filter q (suc n) m [] up low same =
    ap (λ b. cond b (m ∷ filter q (range_with_len (m + 1) n)) (filter q (range_with_len (m + 1) n)))
    (same m (omega arith) (omega arith))
    ∙ rising_filter q n (m + 1) [] tt tt (λ v over under. same v (omega arith) (omega arith))
rising_filter q (suc n) m (x ∷ xs) up low same =
    let over = up.0 in
    let end : m + suc n ≡ m + 1 + n = omega arith in
    elim (cases_eq x m) [
      | inl is ↦
          ap (λ b. cond b (m ∷ filter q (range_with_len (m + 1) n))
          (filter q (range_with_len (m + 1) n)))
          (same m (omega arith) (omega arith)
          ∙ ap (λ b. b || list_any (λ y. eqb y m) xs) (eq-eqb x m is))
          ∙ ap (λ ys. m ∷ ys)
          (rising_filter q n (m + 1) xs (subst (λ k. Rises (k + 1) xs) is up.1)
          (subst (λ k. Below k xs) end low.1)
          (λ v above under. same v (omega arith) (omega arith)
          ∙ ap (λ b. b || list_any (λ y. eqb y v) xs) (ne_eqb x v (λ e. omega arith))))
          ∙ ap (λ k. k ∷ xs) (sym is)
      | inr apart ↦
          ap (λ b. cond b (m ∷ filter q (range_with_len (m + 1) n))
          (filter q (range_with_len (m + 1) n)))
          (same m (omega arith) (omega arith)
          ∙ none_before m (m + 1) (x ∷ xs) (omega arith) (omega arith, up.1))
          ∙ rising_filter q n (m + 1) (x ∷ xs) (omega arith, up.1)
          (subst (λ k. Below k (x ∷ xs)) end low)
          (λ v above under. same v (omega arith) (omega arith))
    ]

eqb_flips : (x y : ℕ) → eqb x y ≡ eqb y x
eqb_flips x y =
    elim (cases_eq x y) [
      | inl same ↦ eq-eqb x y same ∙ sym (eq-eqb y x (sym same))
      | inr apart ↦ ne_eqb x y apart ∙ sym (ne_eqb y x (λ e. apart (sym e)))
    ]

-- a list without its repeats contains the same numbers
among_dedup : (xs : List ℕ) (v : ℕ)
    → list_any (λ x. eqb x v) xs ≡ list_any (λ x. eqb x v) (dedup eqb xs)
among_dedup xs v =
    any-same (λ x. eqb x v) (eqb v) (λ x. eqb_flips x v) xs
    ∙ elim (cases_Bool (list_any (eqb v) xs)) [
      | inl among ↦ among ∙ sym (list_any-from_Contains nat_eq_equiv v (dedup eqb xs)
          (Contains-dedup_nat xs v (Contains-from_any eqb-true v xs among)))
      | inr not_among ↦ not_among ∙ sym (false_from_ne_true (list_any (eqb v) (dedup eqb xs))
          (λ left. true≢false (sym (list_any-from_Contains nat_eq_equiv v xs
          (Contains-from_dedup eqb xs v (Contains-from_any eqb-true v (dedup eqb xs) left)))
          ∙ not_among)))
    ]
    ∙ sym (any-same (λ x. eqb x v) (eqb v) (λ x. eqb_flips x v) (dedup eqb xs))

-- numbers below n, sorted and without repeats
pub sorted_filter : (n : ℕ) (xs ys : List ℕ) → All (λ x. x < n) xs
    → IsPermutation xs ys → IsSorted nat_cmp ys
    → dedup eqb ys ≡ filter (λ v. list_any (λ x. eqb x v) xs) (range_with_len 0 n)
sorted_filter n xs ys low moved sorted =
    sym (rising_filter (λ v. list_any (λ x. eqb x v) xs) n 0 (dedup eqb ys)
    (rises_on 0 (dedup eqb ys) (λ some. omega arith) (IsStrictlyIncreasing-dedup ys sorted))
    (subst (λ k. Below k (dedup eqb ys)) (let none : n ≡ 0 + n = omega arith in none)
    (below_all n (dedup eqb ys) (All-dedup eqb (λ x. x < n) ys
    (All-permutation (λ x. x < n) xs ys moved low))))
    (λ v above under. list_any-IsPermutation (λ x. eqb x v) xs ys moved ∙ among_dedup ys v))
