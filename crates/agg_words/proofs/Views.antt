-- Lists of views: what they add up to, and what holds of each.
use Rattle.std.proofs.Common.{◌≡◌, ℕ, zero, suc, ◌+◌, ◌≤◌, ◌%◌, ◌^◌, List, [], ◌∷◌, ◌++◌, set, sym}
use Rattle.std.proofs.Common.{refl, ap, ◌∙◌, subst, arith}
use Rattle.std.specs.Prelude.{All, filter, flat_map, sum_by, ◌==◌}
use Rattle.std.proofs.lemmas.List.Sums.{sum_by-cons, sum_by-append}
use Rattle.std.proofs.lemmas.List.Elements.{All-nil, All-cons, All-head, All-tail, filter-append}
use mathlib.Core.Option.{some, some-injective, some-ne-none}
use lib.ListN.{get_elem?}
use Rattle.bolt_base.specs.Residue.{Amount, sum_at}
use Rattle.agg_words.specs.View.{View, times}

-- a number of each view, added up
abbrev pub total : (View → ℕ) → List View → ℕ
total f views = sum_by f views

-- a view at its place
abbrev pub IsAt : List View → ℕ → View → Type 0
IsAt views i v = get_elem? views i ≡ some v

-- the total after one view has changed
pub total-set : (f : View → ℕ) (views : List View) (i : ℕ) (v w : View) → IsAt views i v
    → total f (set views i w) + f v ≡ total f views + f w
total-set f [] i v w at = absurd (some-ne-none v (sym at))
total-set f (x ∷ xs) zero v w at =
    let e = ap f (some-injective x v at) in
    let a = sum_by-cons f w xs in
    let b = sum_by-cons f x xs in
    omega arith
total-set f (x ∷ xs) (suc i) v w at =
    let e = total-set f xs i v w at in
    let a = sum_by-cons f x (set xs i w) in
    let b = sum_by-cons f x xs in
    omega arith

-- and once one more has come
pub total-push : (f : View → ℕ) (views : List View) (w : View)
    → total f (views ++ w ∷ []) ≡ total f views + f w
total-push f views w = let e = sum_by-append f views (w ∷ []) in omega arith

-- what adds up over joined lists adds up over the lists of all views
total-flat_map : {A : Type 0} (F : List A → ℕ) (part : View → List A) → F [] ≡ 0
    → ((xs ys : List A) → F (xs ++ ys) ≡ F xs + F ys)
    → (views : List View) → F (flat_map part views) ≡ total (λ v. F (part v)) views
total-flat_map F part none joins [] = none
total-flat_map F part none joins (v ∷ vs) =
    joins (part v) (flat_map part vs)
    ∙ ap (λ n. F (part v) + n) (total-flat_map F part none joins vs)
    ∙ sym (sum_by-cons (λ x. F (part x)) v vs)

-- the sum of the amounts for a word, before it is reduced modulo 2^64
abbrev pub whole_sum : ℕ → List Amount → ℕ
whole_sum w amounts = sum_by (λ a. a.amount) (filter (λ a. a.word == w) amounts)

pub whole_sum-append : (w : ℕ) (xs ys : List Amount)
    → whole_sum w (xs ++ ys) ≡ whole_sum w xs + whole_sum w ys
whole_sum-append w xs ys =
    ap (sum_by (λ (a : Amount). a.amount)) (filter-append (λ (a : Amount). a.word == w) xs ys)
    ∙ sum_by-append (λ (a : Amount). a.amount) (filter (λ a. a.word == w) xs)
    (filter (λ a. a.word == w) ys)

-- that sum in one view
abbrev pub amount_in : ℕ → View → ℕ
amount_in w v = whole_sum w v.amounts

pub sum_at-views : (w : ℕ) (views : List View)
    → sum_at w (flat_map (λ v. v.amounts) views) ≡ total (amount_in w) views % 2 ^ 64
sum_at-views w views = ap (λ n. n % 2 ^ 64)
    (total-flat_map (whole_sum w) (λ v. v.amounts) refl (whole_sum-append w) views)

pub times-append : (bit : ℕ) (xs ys : List ℕ) → times bit (xs ++ ys) ≡ times bit xs + times bit ys
times-append bit xs ys = sum_by-append _ xs ys

-- how often a bit stands in the marks of one view
abbrev pub marks_in : ℕ → View → ℕ
marks_in bit v = times bit v.marks

pub times-views : (bit : ℕ) (views : List View)
    → times bit (flat_map (λ v. v.marks) views) ≡ total (marks_in bit) views
times-views bit views = total-flat_map (times bit) (λ v. v.marks) refl (times-append bit) views

-- what holds of each view
pub All-at : (P : View → Type 0) (views : List View) (i : ℕ) (v : View) → All P views
    → IsAt views i v → P v
All-at P [] i v all at = absurd (some-ne-none v (sym at))
All-at P (x ∷ xs) zero v all at = subst P (some-injective x v at) (All-head P x xs all)
All-at P (x ∷ xs) (suc i) v all at = All-at P xs i v (All-tail P x xs all) at

pub All-from_at : (P : View → Type 0) (views : List View)
    → ((i : ℕ) (v : View) → IsAt views i v → P v) → All P views
All-from_at P [] each = All-nil P
All-from_at P (x ∷ xs) each = All-cons P x xs (each 0 x refl)
    (All-from_at P xs (λ i v at. each (suc i) v at))

pub All-weaker : {A : Type 0} (P Q : A → Type 0) (xs : List A) → ((x : A) → P x → Q x) → All P xs
    → All Q xs
All-weaker P Q xs weaker all k d below = weaker _ (all k d below)

pub at-set : (views : List View) (i : ℕ) (v w : View) → IsAt views i v → IsAt (set views i w) i w
at-set [] i v w at = absurd (some-ne-none v (sym at))
at-set (x ∷ xs) zero v w at = refl
at-set (x ∷ xs) (suc i) v w at = at-set xs i v w at

-- no view has more of a number than all of them
pub one-le-total : (f : View → ℕ) (views : List View) (i : ℕ) (v : View) → IsAt views i v
    → f v ≤ total f views
one-le-total f [] i v at = absurd (some-ne-none v (sym at))
one-le-total f (x ∷ xs) zero v at =
    let e = ap f (some-injective x v at) in
    let a = sum_by-cons f x xs in
    omega arith
one-le-total f (x ∷ xs) (suc i) v at =
    let e = one-le-total f xs i v at in
    let a = sum_by-cons f x xs in
    omega arith
