-- Lists that are set at some places.
use Rattle.std.proofs.Common.{◌≡◌, ℕ, ℤ, zero, suc, ◌+◌, ◌<◌, ◌≤◌, Bool, true, false, ◌||◌, ◌&&◌}
use Rattle.std.proofs.Common.{cond, eqb, set, List, [], ◌∷◌, length, get_or, map, take}
use Rattle.std.proofs.Common.{inl, inr, refl, sym, ap, ◌∙◌, arith, length-set}
use Rattle.std.specs.List.{list_any, range_with_len}
use Rattle.std.proofs.Math.Bool.{and-true}
use Rattle.std.proofs.lemmas.Bool.{cases_eq, eq-eqb, eqb-true, ne_eqb}
use Rattle.std.proofs.lemmas.List.{get_or-set_other, get_or-set_same, get_or_default, take_more}
use Rattle.std.proofs.lemmas.List.Folds.{list_any_none}
use Rattle.std.proofs.lemmas.List.FromFn.{fill_by_all}
use Rattle.std.proofs.lemmas.List.Sums.{fold_push}
use Rattle.std.proofs.lemmas.Map.Views.{any-filter_same}
use Rattle.run_model.specs.Rows.{Lists, at}
use Rattle.refine_rows.specs.Picked.{vertices_where}
use Rattle.refine_rows.proofs.PickLemmas.{not_before}
use Rattle.hybrid_tail.specs.Setting.{with_each}

-- one place more
pub each_more : (f : ℕ → List ℤ) (vs : List ℕ) (k : ℕ) (xs : Lists) → k < length vs
    → with_each f (take (k + 1) vs) xs
    ≡ set (with_each f (take k vs) xs) (get_or vs k 0) (f (get_or vs k 0))
each_more f vs k xs small =
    ap (λ us. with_each f us xs) (take_more vs k 0 small)
    ∙ fold_push (λ ys v. set ys v (f v)) xs (take k vs) (get_or vs k 0)

pub length-each : (f : ℕ → List ℤ) (vs : List ℕ) (xs : Lists)
    → length (with_each f vs xs) ≡ length xs
length-each f [] xs = refl
length-each f (v ∷ vs) xs = length-each f vs (set xs v (f v)) ∙ length-set xs v (f v)

-- what stands at a place that there is
pub at_each : (f : ℕ → List ℤ) (vs : List ℕ) (xs : Lists) (v : ℕ) → v < length xs
    → at (with_each f vs xs) v ≡ cond (list_any (λ u. eqb u v) vs) (f v) (at xs v)
at_each f [] xs v there = refl
at_each f (u ∷ vs) xs v there =
    let long = length-set xs u (f u) in
    let b : Bool = list_any (λ w. eqb w v) vs in
    at_each f vs (set xs u (f u)) v (omega arith)
    ∙ elim (cases_eq u v) [
      | inl same ↦
          let here : at (set xs u (f u)) v ≡ f v =
          ap (λ w. at (set xs w (f w)) v) same ∙ get_or-set_same xs v (f v) [] there in
          ap (λ ys. cond b (f v) ys) here ∙ alike b (f v)
          ∙ sym (ap (λ c. cond (c || b) (f v) (at xs v)) (eq-eqb u v same))
      | inr apart ↦
          ap (λ ys. cond b (f v) ys) (get_or-set_other xs u v (f u) [] (λ e. apart (sym e)))
          ∙ sym (ap (λ c. cond (c || b) (f v) (at xs v)) (ne_eqb u v apart))
    ]
  where
    alike : (b : Bool) (ys : List ℤ) → cond b ys ys ≡ ys
    alike true ys = refl
    alike false ys = refl

-- ---- places that pass a test
any_range : (m n v : ℕ) → m ≤ v → v < m + n
    → list_any (λ u. eqb u v) (range_with_len m n) ≡ true
any_range m zero v low high = absurd (omega arith)
any_range m (suc n) v low high =
    let rest : Bool = list_any (λ u. eqb u v) (range_with_len (m + 1) n) in
    elim (cases_eq m v) [
      | inl same ↦ ap (λ b. b || rest) (eq-eqb m v same)
      | inr apart ↦ ap (λ b. b || rest) (ne_eqb m v apart)
          ∙ any_range (m + 1) n v (omega arith) (omega arith)
    ]

any_where : (n : ℕ) (p : ℕ → Bool) (v : ℕ) → v < n
    → list_any (λ u. eqb u v) (vertices_where n p) ≡ p v
any_where n p v small =
    any-filter_same (λ u. eqb u v) p (p v) (λ u t. ap p (eqb-true u v t)) (range_with_len 0 n)
    ∙ ap (λ b. p v && b) (any_range 0 n v (omega arith) (omega arith))
    ∙ and-true (p v)

pub each_where : (n : ℕ) (p : ℕ → Bool) (f : ℕ → List ℤ) (xs : Lists) → length xs ≡ n
    → with_each f (vertices_where n p) xs
    ≡ map (λ v. cond (p v) (f v) (at xs v)) (range_with_len 0 n)
each_where n p f xs long =
    fill_by_all (λ v. cond (p v) (f v) (at xs v)) (with_each f (vertices_where n p) xs) n []
    (length-each f (vertices_where n p) xs ∙ long)
    (λ v small. at_each f (vertices_where n p) xs v (omega arith)
    ∙ ap (λ b. cond b (f v) (at xs v)) (any_where n p v small))

-- where just the places that pass a test may differ
pub each_makes : (n : ℕ) (p : ℕ → Bool) (f : ℕ → List ℤ) (xs ys : Lists) → length xs ≡ n
    → length ys ≡ n
    → ((v : ℕ) → v < n → p v ≡ true → at ys v ≡ f v)
    → ((v : ℕ) → v < n → p v ≡ false → at ys v ≡ at xs v)
    → with_each f (vertices_where n p) xs ≡ ys
each_makes n p f xs ys long same picked others =
    each_where n p f xs long
    ∙ sym (fill_by_all (λ v. cond (p v) (f v) (at xs v)) ys n [] same
    (λ v small. elim (p v) as (λ b. p v ≡ b → at ys v ≡ cond b (f v) (at xs v)) [
      | true ↦ λ t. picked v small t
      | false ↦ λ t. others v small t
    ] refl))

-- the next place was not set yet
none_before : (n : ℕ) (p : ℕ → Bool) (k : ℕ) → k < length (vertices_where n p)
    → list_any (λ u. eqb u (get_or (vertices_where n p) k 0)) (take k (vertices_where n p))
    ≡ false
none_before n p k small =
    let vs : List ℕ = vertices_where n p in
    let v : ℕ = get_or vs k 0 in
    list_any_none (λ u. eqb u v) (take k vs)
    (λ j d l. ne_eqb (get_or (take k vs) j d) v
    (λ e. not_before n p k v small refl (j, l, get_or_default (take k vs) j v d l ∙ e)))

pub at_next : (n : ℕ) (p : ℕ → Bool) (f : ℕ → List ℤ) (vs : List ℕ) (xs : Lists) (k : ℕ)
    → vs ≡ vertices_where n p → k < length vs → get_or vs k 0 < length xs
    → at (with_each f (take k vs) xs) (get_or vs k 0) ≡ at xs (get_or vs k 0)
at_next n p f vs xs k is small there =
    let v : ℕ = get_or vs k 0 in
    let none : list_any (λ u. eqb u v) (take k vs) ≡ false =
    (λ j. list_any (λ u. eqb u (get_or (is j) k 0)) (take k (is j)))
    ∙ none_before n p k (let e = ap length is in omega arith) in
    at_each f (take k vs) xs v there ∙ ap (λ b. cond b (f v) (at xs v)) none
