-- Vertices that are numbered in the order in which they came.
use Rattle.std.proofs.Common.{◌≡◌, ◌≢◌, ℕ, zero, suc, ◌+◌, ◌<◌, ◌≤◌, Bool, true, false, ◌||◌, eqb}
use Rattle.std.proofs.Common.{List, [], ◌∷◌, ◌++◌, length, get_or, inl, inr, refl, sym, ap, ◌∙◌}
use Rattle.std.proofs.Common.{arith}
use Rattle.std.specs.List.{All, IsDistinct, list_any}
use Rattle.std.proofs.lemmas.Bool.{cases_eq, cases_lt, or_cases, ne_eqb, eq-eqb, eqb-true}
use Rattle.std.proofs.lemmas.Bool.{false≢true}
use Rattle.std.proofs.lemmas.List.{get_or_append_left, get_or_push, get_or_default, length_push}
use Rattle.std.proofs.lemmas.List.Elements.{All-from_get_or}
use Rattle.std.proofs.lemmas.Map.Keys.{IsDistinct-from_apart}
use Rattle.std.proofs.lemmas.Map.Steps.{length-le_from_distinct_below}
use Rattle.agg_history.specs.Numbered.{AreNumbered}

-- a number of a list has a place there
pub any_place : (xs : List ℕ) (q : ℕ) → list_any (λ u. eqb q u) xs ≡ true → (p : ℕ)
    × (p < length xs) × (get_or xs p 0 ≡ q)
any_place [] q e = cc
any_place (x ∷ xs) q e = elim (or_cases (eqb q x) (list_any (λ u. eqb q u) xs) e) [
  | inl here ↦ (0, omega arith, sym (eqb-true q x here))
  | inr later ↦ let rest = any_place xs q later in
      (suc rest.0, (let l = rest.1 in omega arith), rest.2)
]

pub any_at : (xs : List ℕ) (q p : ℕ) → p < length xs → get_or xs p 0 ≡ q
    → list_any (λ u. eqb q u) xs ≡ true
any_at [] q p l e = absurd (omega arith)
any_at (x ∷ xs) q zero l e = ap (λ b. b || list_any (λ u. eqb q u) xs) (eq-eqb q x (sym e))
any_at (x ∷ xs) q (suc p) l e = any_or (eqb q x) (list_any (λ u. eqb q u) xs)
    (any_at xs q p (omega arith) e)
  where
    any_or : (a b : Bool) → b ≡ true → a || b ≡ true
    any_or true b t = refl
    any_or false b t = t

module _ (number : ℕ → ℕ) (n : ℕ) (order : List ℕ) (h : AreNumbered number n order) where
  pub all_inside : All (λ v. v < n) order
  all_inside = All-from_get_or (λ (v : ℕ). v < n) order 0 h.inside

  numbers_apart : (i j d : ℕ) → i < j → j < length order
      → eqb (get_or order i d) (get_or order j d) ≡ false
  numbers_apart i j d l m = ne_eqb (get_or order i d) (get_or order j d) (λ e.
      let a : get_or order i 0 ≡ get_or order j 0 = get_or_default order i 0 d (omega arith) ∙ e
      ∙ get_or_default order j d 0 m in
      let b : suc i ≡ suc j = sym (h.back i (omega arith)) ∙ ap number a ∙ h.back j m in
      absurd (omega arith))

  pub order_distinct : IsDistinct eqb order
  order_distinct = IsDistinct-from_apart eqb order numbers_apart

  pub order_few : length order ≤ n
  order_few = length-le_from_distinct_below order n order_distinct
      (λ q t. let at = any_place order q t in
      let l = h.inside at.0 at.1 in let e = at.2 in omega arith)

  pub not_in_order : (v : ℕ) → v < n → list_any (λ u. eqb v u) order ≡ false → number v ≡ 0
  not_in_order v l none = by_number (number v) refl
    where
      by_number : (k : ℕ) → number v ≡ k → number v ≡ 0
      by_number zero e = e
      by_number (suc p) e = absurd
          (false≢true (sym none ∙ any_at order v p (h.within v p l e) (h.forth v p l e)))

  pub in_order_numbered : (v : ℕ) → v < n → list_any (λ u. eqb v u) order ≡ true → (p : ℕ)
      × (number v ≡ suc p) × (p < length order)
  in_order_numbered v l some = let at = any_place order v some in
      (at.0, ap number (sym at.2) ∙ h.back at.0 at.1, at.1)

-- one more
module _ (number : ℕ → ℕ) (n : ℕ) (order : List ℕ) (h : AreNumbered number n order) (v : ℕ)
    (inside : v < n) (new : number v ≡ 0) where
  pub numbered_more : (later : ℕ → ℕ) → later v ≡ suc (length order)
      → ((u : ℕ) → u ≢ v → later u ≡ number u) → AreNumbered later n (order ++ v ∷ [])
  numbered_more later here others = record {
    inside = λ p l. elim (cases_lt p (length order)) [
      | inl m ↦ let e = get_or_append_left order (v ∷ []) 0 p m in let b = h.inside p m in
          omega arith
      | inr m ↦ let e : get_or (order ++ v ∷ []) p 0
          ≡ v = get_or_push order v 0 p (omega (arith, length_push order v)) in omega arith
    ];
    back = λ p l. elim (cases_lt p (length order)) [
      | inl m ↦ ap later (get_or_append_left order (v ∷ []) 0 p m)
          ∙ others (get_or order p 0)
          (λ e. let c : suc p ≡ 0 = sym (h.back p m) ∙ ap number e ∙ new in
          absurd (omega arith)) ∙ h.back p m
      | inr m ↦ let last : length order ≡ p = omega (arith, length_push order v) in
          ap later (get_or_push order v 0 p last) ∙ here ∙ ap suc last
    ];
    within = λ u p l e. elim (cases_eq u v) [
      | inl same ↦ let f : suc (length order) ≡ suc p = sym here ∙ ap later (sym same) ∙ e in
          omega (arith, length_push order v)
      | inr other ↦ let m = h.within u p l (sym (others u other) ∙ e) in
          omega (arith, length_push order v)
    ];
    forth = λ u p l e. elim (cases_eq u v) [
      | inl same ↦ let f : suc (length order) ≡ suc p = sym here ∙ ap later (sym same) ∙ e in
          get_or_push order v 0 p (let g : length order ≡ p = omega arith in g) ∙ sym same
      | inr other ↦ let was : number u ≡ suc p = sym (others u other) ∙ e in
          get_or_append_left order (v ∷ []) 0 p (h.within u p l was) ∙ h.forth u p l was
    ];
  }

  pub room_for_one : length order + 1 ≤ n
  room_for_one =
      let later : ℕ → ℕ = λ u. number_or (eqb u v) u in
      let more = order_few later n (order ++ v ∷ [])
      (numbered_more later (ap (λ b. number_or b v) (eq-eqb v v refl))
      (λ u other. ap (λ b. number_or b u) (ne_eqb u v other))) in
      omega (arith, length_push order v)
    where
      number_or : Bool → ℕ → ℕ
      number_or true u = suc (length order)
      number_or false u = number u
