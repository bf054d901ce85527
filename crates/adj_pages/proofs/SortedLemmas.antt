-- Parts of what is sorted.
use Rattle.std.proofs.Common.{◌≡◌, ℕ, zero, suc, ◌+◌, ◌-◌, ◌<◌, ◌≤◌, T, Bool, true, false, ◌&&◌}
use Rattle.std.proofs.Common.{List, [], ◌∷◌, ◌++◌, length, get_or, take, drop, refl, sym, ap, ◌∙◌}
use Rattle.std.proofs.Common.{subst, arith}
use Rattle.std.specs.Ordering.{nat_cmp, is_lt}
use Rattle.std.specs.List.{All}
use Rattle.std.specs.FinMap.Entries.{is_sorted, below_all}
use Rattle.std.proofs.lemmas.List.{take-append-drop}
use Rattle.std.proofs.lemmas.List.Elements.{All-nil, All-cons}
use Rattle.bolt_base.proofs.SortedKeys.{both_hold, and_holds, is_lt-less}

below_prefix : {X : Type 0} (k : ℕ) (xs ys : List (ℕ × X)) → T (below_all nat_cmp k (xs ++ ys))
    → T (below_all nat_cmp k xs)
below_prefix k [] ys h = tt
below_prefix k (x ∷ xs) ys h = let b = both_hold (is_lt (nat_cmp k x.0))
    (below_all nat_cmp k (xs ++ ys)) h in and_holds (is_lt (nat_cmp k x.0))
    (below_all nat_cmp k xs) b.0
    (below_prefix k xs ys b.1)

pub sorted_prefix : {X : Type 0} (xs ys : List (ℕ × X)) → T (is_sorted nat_cmp (xs ++ ys))
    → T (is_sorted nat_cmp xs)
sorted_prefix [] ys h = tt
sorted_prefix (x ∷ xs) ys h = let b = both_hold (below_all nat_cmp x.0 (xs ++ ys))
    (is_sorted nat_cmp (xs ++ ys)) h in and_holds (below_all nat_cmp x.0 xs) (is_sorted nat_cmp xs)
    (below_prefix x.0 xs ys b.0) (sorted_prefix xs ys b.1)

pub sorted_suffix : {X : Type 0} (xs ys : List (ℕ × X)) → T (is_sorted nat_cmp (xs ++ ys))
    → T (is_sorted nat_cmp ys)
sorted_suffix [] ys h = h
sorted_suffix (x ∷ xs) ys h = sorted_suffix xs ys
    (both_hold (below_all nat_cmp x.0 (xs ++ ys)) (is_sorted nat_cmp (xs ++ ys)) h).1

pub sorted_take : {X : Type 0} (n : ℕ) (xs : List (ℕ × X)) → T (is_sorted nat_cmp xs)
    → T (is_sorted nat_cmp (take n xs))
sorted_take n xs h = sorted_prefix (take n xs) (drop n xs)
    (subst (λ zs. T (is_sorted nat_cmp zs)) (sym (take-append-drop n xs)) h)

pub sorted_drop : {X : Type 0} (n : ℕ) (xs : List (ℕ × X)) → T (is_sorted nat_cmp xs)
    → T (is_sorted nat_cmp (drop n xs))
sorted_drop n xs h = sorted_suffix (take n xs) (drop n xs)
    (subst (λ zs. T (is_sorted nat_cmp zs)) (sym (take-append-drop n xs)) h)

sorted_from : {X : Type 0} (x : ℕ) (e : ℕ × X) (es : List (ℕ × X)) → T (is_sorted nat_cmp (e ∷ es))
    → x ≤ e.0 → All (λ (a : ℕ × X). x ≤ a.0) (e ∷ es)
sorted_from {X} x e [] h l = All-cons (λ (a : ℕ × X). x ≤ a.0) e [] l
    (All-nil (λ (a : ℕ × X). x ≤ a.0))
sorted_from {X} x e (f ∷ fs) h l =
    let b = both_hold (below_all nat_cmp e.0 (f ∷ fs)) (is_sorted nat_cmp (f ∷ fs)) h in
    let up : e.0 < f.0 = is_lt-less e.0 f.0
    (both_hold (is_lt (nat_cmp e.0 f.0)) (below_all nat_cmp e.0 fs) b.0).0 in
    All-cons (λ (a : ℕ × X). x ≤ a.0) e (f ∷ fs) l (sorted_from x f fs b.1 (omega (arith, l, up)))

-- all from a place on are at least x, if the one there is
pub sorted_drop_from : {X : Type 0} (x at : ℕ) (es : List (ℕ × X)) (d : ℕ × X)
    → T (is_sorted nat_cmp es) → at < length es → x ≤ (get_or es at d).0
    → All (λ (a : ℕ × X). x ≤ a.0) (drop at es)
sorted_drop_from x at [] d h l m = absurd (omega arith)
sorted_drop_from x zero (e ∷ es) d h l m = sorted_from x e es h m
sorted_drop_from x (suc at) (e ∷ es) d h l m = sorted_drop_from x at es d
    (both_hold (below_all nat_cmp e.0 es) (is_sorted nat_cmp es) h).1 (omega arith) m

empty_take : {X : Type 0} (m : ℕ) → ◌≡◌ {A = List X} (take m []) []
empty_take zero = refl
empty_take (suc m) = refl

pub take_more : {X : Type 0} (n m : ℕ) (xs : List X) → take (n + m) xs ≡ take n xs
    ++ take m (drop n xs)
take_more zero m xs = ap (λ k. take k xs) (let e : 0 + m ≡ m = omega arith in e)
take_more {X} (suc n) m [] = empty_take {X = X} (suc n + m) ∙ sym (empty_take {X = X} m)
take_more (suc n) m (x ∷ xs) = ap (λ k. take k (x ∷ xs))
    (let e : suc n + m ≡ suc (n + m) = omega arith in e) ∙ ap (λ zs. x ∷ zs) (take_more n m xs)
