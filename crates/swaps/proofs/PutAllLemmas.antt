-- Items of given places put into a list, one for each place.
use Rattle.std.proofs.Common.{◌≡◌, ◌≢◌, ℕ, zero, suc, ◌+◌, ◌-◌, ◌<◌, Bool, true, false, ◌||◌, eqb}
use Rattle.std.proofs.Common.{List, [], ◌∷◌, ◌++◌, length, get_or, set, map, replicate, inl, inr}
use Rattle.std.proofs.Common.{refl, sym, ap, ◌∙◌, arith}
use Rattle.std.specs.List.{All, IsDistinct, list_any, sum_by, range_with_len}
use Rattle.std.proofs.lemmas.Bool.{cases_lt, cases_Bool, or_cases, eqb-true, eq-eqb, eqb-false}
use Rattle.std.proofs.lemmas.List.{get_or-set_other, get_or_append_left, get_or-append_right}
use Rattle.std.proofs.lemmas.List.{get_or_past, length-set}
use Rattle.std.proofs.lemmas.List.Elements.{All-head, All-tail, All-set, All-from_recursion}
use Rattle.std.proofs.lemmas.List.FromFn.{fill_by_all}
use Rattle.std.proofs.lemmas.List.Sums.{sum_by-cons, sum_by-set, sum_by-append}
use Rattle.std.proofs.lemmas.Map.Keys.{IsDistinct-head, IsDistinct-tail}
use Rattle.swaps.specs.Swaps.{put_all, placed}
use Rattle.swaps.proofs.SwapLemmas.{put_all_at, has_place, length-put_all}

has_place_of : {X : Type 0} (f : ℕ → X) (vs : List ℕ) (v : ℕ) → list_any (λ u. eqb v u) vs ≡ true
    → has_place v (placed f vs) ≡ true
has_place_of f [] v e = cc
has_place_of f (u ∷ vs) v e = elim (or_cases (eqb v u) (list_any (λ w. eqb v w) vs) e) [
  | inl here ↦ ap (λ b. b || has_place v (placed f vs)) (eq-eqb u v (sym (eqb-true v u here)))
  | inr later ↦ any_or (eqb u v) (has_place v (placed f vs)) (has_place_of f vs v later)
]
  where
    any_or : (a b : Bool) → b ≡ true → a || b ≡ true
    any_or true b t = refl
    any_or false b t = t

all_placed : {X : Type 0} (f : ℕ → X) (vs : List ℕ) (i : ℕ) (d : ℕ × X) → i < length (placed f vs)
    → (get_or (placed f vs) i d).1 ≡ f (get_or (placed f vs) i d).0
all_placed f [] i d l = absurd (omega arith)
all_placed f (v ∷ vs) zero d l = refl
all_placed f (v ∷ vs) (suc i) d l = all_placed f vs i d (omega arith)

-- where every other place has what f gives already, all have it
pub put_all_made : {X : Type 0} (f : ℕ → X) (d : X) (vs : List ℕ) (xs : List X) (n : ℕ)
    → length xs ≡ n
    → ((v : ℕ) → v < n → list_any (λ u. eqb v u) vs ≡ false → get_or xs v d ≡ f v)
    → put_all (placed f vs) xs ≡ map f (range_with_len 0 n)
put_all_made f d vs xs n long others = fill_by_all f (put_all (placed f vs) xs) n d
    (length-put_all (placed f vs) xs ∙ long)
    (λ v h. put_all_at f d (placed f vs) (all_placed f vs) xs v (omega arith)
    (elim (cases_Bool (list_any (λ u. eqb v u) vs)) [
      | inl some ↦ inr (has_place_of f vs v some)
      | inr none ↦ inl (others v h none)
    ]))

-- ---- blanks past the end
pub get_or-blanks : {X : Type 0} (xs : List X) (k v : ℕ) (d : X)
    → get_or (xs ++ replicate k d) v d ≡ get_or xs v d
get_or-blanks xs k v d = elim (cases_lt v (length xs)) [
  | inl l ↦ get_or_append_left xs (replicate k d) d v l
  | inr l ↦ get_or-append_right xs (replicate k d) (length xs) v d refl l ∙ blank k (v - length xs)
      ∙ sym (get_or_past xs v d l)
]
  where
    blank : (k i : ℕ) → get_or (replicate k d) i d ≡ d
    blank zero i = refl
    blank (suc k) zero = refl
    blank (suc k) (suc i) = blank k i

sum-blanks : {X : Type 0} (g : X → ℕ) (d : X) → g d ≡ 0 → (k : ℕ) → sum_by g (replicate k d) ≡ 0
sum-blanks g d e zero = refl
sum-blanks g d e (suc k) = sum_by-cons g d (replicate k d)
    ∙ (let r = sum-blanks g d e k in omega arith)

pub sum_with_blanks : {X : Type 0} (g : X → ℕ) (d : X) → g d ≡ 0 → (xs : List X) (k : ℕ)
    → sum_by g (xs ++ replicate k d) ≡ sum_by g xs
sum_with_blanks g d e xs k = sum_by-append g xs (replicate k d)
    ∙ (let r = sum-blanks g d e k in omega arith)

-- ---- sums: what comes in goes out elsewhere
other_sums : {X : Type 0} (g : X → ℕ) (d : X) (vs : List ℕ) (v : ℕ) (xs : List X) (x : X)
    → ((i : ℕ) → i < length vs → get_or vs i 0 ≢ v)
    → sum_by (λ u. g (get_or (set xs v x) u d)) vs ≡ sum_by (λ u. g (get_or xs u d)) vs
other_sums g d [] v xs x apart = refl
other_sums g d (u ∷ vs) v xs x apart =
    sum_by-cons (λ w. g (get_or (set xs v x) w d)) u vs
    ∙ (λ i. g (get_or-set_other xs v u x d (apart 0 (omega arith)) i) + other_sums g d vs v xs x
    (λ j l. apart (suc j) (omega arith)) i)
    ∙ sym (sum_by-cons (λ w. g (get_or xs w d)) u vs)

-- the sum over the list with the items, and over what stood at their places, is that over the list
-- and the items
pub sum_put : {X : Type 0} (g : X → ℕ) (f : ℕ → X) (d : X) (vs : List ℕ) (xs : List X)
    → All (λ v. v < length xs) vs → IsDistinct eqb vs
    → sum_by g (put_all (placed f vs) xs) + sum_by (λ v. g (get_or xs v d)) vs
    ≡ sum_by g xs + sum_by (λ v. g (f v)) vs
sum_put g f d [] xs inside distinct = refl
sum_put {X} g f d (v ∷ vs) xs inside distinct =
    let below : v < length xs = All-head (λ (u : ℕ). u < length xs) v vs inside in
    let tail : All (λ u. u < length (set xs v (f v))) vs =
    λ i e l. (let h : get_or vs i e < length xs = All-tail (λ (u : ℕ). u < length xs) v vs inside i
    e l in omega (arith, length-set xs v (f v))) in
    let apart_all = All-from_recursion (λ (u : ℕ). eqb v u ≡ false) vs
    (IsDistinct-head eqb v vs distinct) in
    let apart : (i : ℕ) → i < length vs
    → get_or vs i 0 ≢ v = λ i l e. eqb-false v (get_or vs i 0) (apart_all i 0 l) (sym e) in
    let more = sum_put g f d vs (set xs v (f v)) tail (IsDistinct-tail eqb v vs distinct) in
    let one = sum_by-set g xs v (f v) d below in
    omega (
      arith,
      more,
      one,
      other_sums g d vs v xs (f v) apart,
      sum_by-cons
          (λ u. g (get_or xs u d)) v vs,
      sum_by-cons (λ u. g (f u)) v vs,
    )

-- what holds of the items and of the list holds of the list with the items
pub All-put_all : {X : Type 0} (P : X → Type 0) (items : List (ℕ × X)) (xs : List X)
    → All (λ item. P item.1) items → All P xs → All P (put_all items xs)
All-put_all P [] xs new old = old
All-put_all {X} P (item ∷ items) xs new old =
    let Q : ℕ × X → Type 0 = λ x. P x.1 in
    All-put_all P items (set xs item.0 item.1) (All-tail Q item items new)
    (All-set P xs item.0 item.1 (All-head Q item items new) old)
