-- What sorted entries give is what a filter of a range of keys gives.
use Rattle.std.proofs.Common.{◌≡◌, ◌≢◌, ℕ, zero, suc, ◌+◌, ◌<◌, ◌≤◌, Bool, true, false, cond, T}
use Rattle.std.proofs.Common.{List, [], ◌∷◌, ◌++◌, Option, Some, None, map, filter, refl, sym, ap}
use Rattle.std.proofs.Common.{◌∙◌, arith, inl, inr}
use Rattle.std.specs.List.{range_with_len}
use Rattle.std.specs.Ordering.{nat_cmp, is_lt}
use Rattle.std.specs.FinMap.Entries.{find, below_all, is_sorted}
use Rattle.std.proofs.lemmas.Bool.{cases_eq}
use Rattle.bolt_base.specs.Picks.{picks}
use Rattle.bolt_base.proofs.SortedKeys.{both_hold, equal_tied, unequal_untied, is_lt-less}

-- each key is at least m
abbrev From : {X : Type 0} → ℕ → List (ℕ × X) → Type 0
From m [] = Unit {0}
From m (e ∷ es) = (m ≤ e.0) × From m es

from_weaker : {X : Type 0} (m n : ℕ) (es : List (ℕ × X)) → m ≤ n → From n es → From m es
from_weaker m n [] l h = tt
from_weaker m n (e ∷ es) l h = let a = h.0 in (omega arith, from_weaker m n es l h.1)

pub from_zero : {X : Type 0} (es : List (ℕ × X)) → From 0 es
from_zero [] = tt
from_zero (e ∷ es) = (omega arith, from_zero es)

from_below : {X : Type 0} (k : ℕ) (es : List (ℕ × X)) → T (below_all nat_cmp k es) → From (k + 1) es
from_below k [] h = tt
from_below k (e ∷ es) h =
    let b = both_hold (is_lt (nat_cmp k e.0)) (below_all nat_cmp k es) h in
    let l = is_lt-less k e.0 b.0 in
    (omega arith, from_below k es b.1)

find_from : {X : Type 0} (k m : ℕ) (es : List (ℕ × X)) → k < m → From m es
    → find nat_cmp k es ≡ None
find_from k m [] l h = refl
find_from k m (e ∷ es) l h = let a = h.0 in ap (λ t. cond t (Some e.1) (find nat_cmp k es))
    (unequal_untied k e.0 (λ q. omega arith)) ∙ find_from k m es l h.1

-- an entry past the first one is found behind it
found_behind : {X : Type 0} (v : ℕ) (e : ℕ × X) (es : List (ℕ × X)) → v ≢ e.0
    → find nat_cmp v (e ∷ es) ≡ find nat_cmp v es
found_behind v e es n = ap (λ t. cond t (Some e.1) (find nat_cmp v es)) (unequal_untied v e.0 n)

found_first : {X : Type 0} (v : ℕ) (e : ℕ × X) (es : List (ℕ × X)) → v ≡ e.0
    → find nat_cmp v (e ∷ es) ≡ Some e.1
found_first v e es s = ap (λ t. cond t (Some e.1) (find nat_cmp v es)) (equal_tied v e.0 s)

-- what the entry of a key gives, if there is one
abbrev pub chosen : {X Y : Type 0} → (ℕ → X → List Y) → ℕ → Option X → List Y
chosen pick v None = []
chosen pick v (Some x) = pick v x

abbrev pub one_if : {Y : Type 0} → Bool → Y → List Y
one_if b y = cond b (y ∷ []) []

module _ {X Y : Type 0} (pick : ℕ → X → List Y) where
  none_past : (m : ℕ) (es : List (ℕ × X)) → T (is_sorted nat_cmp es) → From m es
      → ((v : ℕ) (x : X) → m ≤ v → find nat_cmp v es ≡ Some x → pick v x ≡ []) → picks pick es ≡ []
  none_past m [] s h past = refl
  none_past m (e ∷ es) s h past =
      let b = both_hold (below_all nat_cmp e.0 es) (is_sorted nat_cmp es) s in
      let behind = from_below e.0 es b.0 in
      let first : m ≤ e.0 = h.0 in
      ap (λ ys. ys ++ picks pick es) (past e.0 e.1 first (found_first e.0 e es refl))
      ∙ none_past (e.0 + 1) es b.1 behind
      (λ v x l f. past v x (omega arith) (found_behind v e es (λ q. omega arith) ∙ f))

  module _ (f : ℕ → Y) (p : ℕ → Bool) where
    with_first : (m : ℕ) (xs : List ℕ)
        → one_if (p m) (f m) ++ map f (filter p xs) ≡ map f (filter p (m ∷ xs))
    with_first m xs = elim (p m) as (λ b. one_if b (f m) ++ map f (filter p xs)
        ≡ map f (cond b (m ∷ filter p xs) (filter p xs))) [ true ↦ refl | false ↦ refl ]

    pub picks_of_rising : (n m : ℕ) (es : List (ℕ × X)) → T (is_sorted nat_cmp es) → From m es
        → ((v : ℕ) → m ≤ v → v < m + n → chosen pick v (find nat_cmp v es) ≡ one_if (p v) (f v))
        → ((v : ℕ) (x : X) → m + n ≤ v → find nat_cmp v es ≡ Some x → pick v x ≡ [])
        → picks pick es ≡ map f (filter p (range_with_len m n))
    picks_of_rising zero m es s h here past = none_past m es s h
        (λ v x l f'. past v x (omega arith) f')
    picks_of_rising (suc n) m [] s h here past =
        ap (λ ys. ys ++ []) (here m (omega arith) (omega arith))
        ∙ ap (λ ys. one_if (p m) (f m) ++ ys)
        (picks_of_rising n (m + 1) [] tt tt (λ v l k. here v (omega arith) (omega arith))
        (λ v x l k. past v x (omega arith) k))
        ∙ with_first m (range_with_len (m + 1) n)
    picks_of_rising (suc n) m (e ∷ es) s h here past =
        let b = both_hold (below_all nat_cmp e.0 es) (is_sorted nat_cmp es) s in
        let behind = from_below e.0 es b.0 in
        let first : m ≤ e.0 = h.0 in
        elim (cases_eq m e.0) [
          | inl q ↦
              ap (λ ys. ys ++ picks pick es)
              (ap (λ k. pick k e.1) (sym q) ∙ ap (chosen pick m) (sym (found_first m e es q))
              ∙ here m (omega arith) (omega arith))
              ∙ ap (λ ys. one_if (p m) (f m) ++ ys)
              (picks_of_rising n (m + 1) es b.1
              (from_weaker (m + 1) (e.0 + 1) es (omega arith) behind)
              (λ v l k. ap (chosen pick v) (sym (found_behind v e es (λ r. omega arith)))
              ∙ here v (omega arith) (omega arith))
              (λ v x l k. past v x (omega arith) (found_behind v e es (λ r. omega arith) ∙ k)))
              ∙ with_first m (range_with_len (m + 1) n)
          | inr d ↦
              ap (λ ys. ys ++ picks pick (e ∷ es))
              (ap (chosen pick m) (sym
              (found_behind m e es d ∙ find_from m (e.0 + 1) es (omega arith) behind))
              ∙ here m (omega arith) (omega arith))
              ∙ ap (λ ys. one_if (p m) (f m) ++ ys)
              (picks_of_rising n (m + 1) (e ∷ es) s (
                let a : m + 1 ≤ e.0 = omega arith in a,
                from_weaker (m + 1) (e.0 + 1) es
                    (omega arith) behind,
              )
              (λ v l k. here v (omega arith) (omega arith))
              (λ v x l k. past v x (omega arith) k))
              ∙ with_first m (range_with_len (m + 1) n)
        ]
