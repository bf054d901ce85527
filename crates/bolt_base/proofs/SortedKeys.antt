-- Entries that rise by their number.
use Rattle.std.proofs.Common.{◌≡◌, ◌≢◌, ℕ, ◌<◌, Bool, true, false, cond, T, List, [], ◌∷◌, ◌&&◌}
use Rattle.std.proofs.Common.{Some, None, refl, ap, ◌∙◌, subst, arith, sym}
use Rattle.std.specs.Ordering.{nat_cmp, is_eq, is_lt, eq_by_cmp}
use Rattle.std.specs.declared.cmp.Ordering.TheVariants.{Less, Equal, Greater}
use Rattle.std.specs.List.{AllByRecursion}
use Rattle.std.specs.List.Sorted.{IsStrictlySortedBy}
use Rattle.std.specs.Map.{lookup, keys_of}
use Rattle.std.specs.BTreeMap.{is_at}
use Rattle.std.specs.FinMap as finite
use Rattle.std.specs.FinMap.Entries.{find, below_all, is_sorted}
use Rattle.std.proofs.lemmas.Cmp.{ranked}
use Rattle.std.proofs.lemmas.Bool.Decides.{nat_tests}

-- ---- tests of both
pub both_hold : (a b : Bool) → T (a && b) → T a × T b
both_hold true b h = (tt, h)
both_hold false b h = absurd h

pub and_holds : (a b : Bool) → T a → T b → T (a && b)
and_holds true b p q = q
and_holds false b p q = absurd p

-- ---- numbers compared
pub equal_tied : (q k : ℕ) → q ≡ k → eq_by_cmp nat_cmp q k ≡ true
equal_tied q k e = ap is_eq (equal q k e)
  where
    equal : (q k : ℕ) → q ≡ k → nat_cmp q k ≡ Equal
    equal q k e = grind (arith, nat_tests)

pub unequal_untied : (q k : ℕ) → q ≢ k → eq_by_cmp nat_cmp q k ≡ false
unequal_untied q k n = elim (nat_cmp q k) as (λ r. nat_cmp q k ≡ r → is_eq r ≡ false) [
  | Less ↦ λ _. refl
  | Equal ↦ λ e. absurd (n (finite.nat_cmp-IsAntisymmetric q k e))
  | Greater ↦ λ _. refl
] refl

pub tied_equal : (q k : ℕ) → eq_by_cmp nat_cmp q k ≡ true → q ≡ k
tied_equal q k e = elim (nat_cmp q k) as (λ r. nat_cmp q k ≡ r → is_eq r ≡ true → q ≡ k) [
  | Less ↦ λ f g. absurd (cc)
  | Equal ↦ λ f g. finite.nat_cmp-IsAntisymmetric q k f
  | Greater ↦ λ f g. absurd (cc)
] refl e

pub is_lt-less : (a b : ℕ) → T (is_lt (nat_cmp a b)) → a < b
is_lt-less a b h = elim (nat_cmp a b) as (λ r. nat_cmp a b ≡ r → T (is_lt r) → a < b) [
  | Less ↦ λ e t. ranked a b Less (sym e)
  | Equal ↦ λ e t. absurd t
  | Greater ↦ λ e t. absurd t
] refl h

-- ---- sorted entries
pub find_lookup : {X : Type 0} (q : ℕ) (es : List (ℕ × X))
    → find nat_cmp q es ≡ lookup (is_at (nat_cmp q)) es
find_lookup q [] = refl
find_lookup q (e ∷ es) = ap (λ o. cond (eq_by_cmp nat_cmp q e.0) (Some e.1) o) (find_lookup q es)

below_all_keys : {X : Type 0} (k : ℕ) (es : List (ℕ × X))
    → AllByRecursion (λ y. nat_cmp k y ≡ Less) (keys_of es) → T (below_all nat_cmp k es)
below_all_keys k [] h = tt
below_all_keys k (e ∷ es) h = and_holds (is_lt (nat_cmp k e.0)) (below_all nat_cmp k es)
    (subst (λ r. T (is_lt r)) (sym h.0) tt) (below_all_keys k es h.1)

pub ordered_sorted : {X : Type 0} (es : List (ℕ × X)) → IsStrictlySortedBy nat_cmp (keys_of es)
    → T (is_sorted nat_cmp es)
unfolding IsStrictlySortedBy
ordered_sorted [] h = tt
ordered_sorted (e ∷ es) h = and_holds (below_all nat_cmp e.0 es) (is_sorted nat_cmp es)
    (below_all_keys e.0 es h.0) (ordered_sorted es h.1)

-- a number that all entries are above has none
pub not_below : {X : Type 0} (k q : ℕ) (ps : List (ℕ × X)) → eq_by_cmp nat_cmp q k ≡ true
    → T (below_all nat_cmp k ps) → find nat_cmp q ps ≡ None
not_below k q [] e h = refl
not_below k q (p ∷ ps) e h =
    let b = both_hold (is_lt (nat_cmp k p.0)) (below_all nat_cmp k ps) h in
    ap (λ c. cond c (Some p.1) (find nat_cmp q ps)) (apart k q p.0 (tied_equal q k e) b.0)
    ∙ not_below k q ps e b.1
  where
    apart : (k q x : ℕ) → q ≡ k → T (is_lt (nat_cmp k x)) → eq_by_cmp nat_cmp q x ≡ false
    apart k q x same h =
        ap (λ y. eq_by_cmp nat_cmp y x) same
        ∙ (elim (nat_cmp k x) as (λ r. T (is_lt r) → is_eq r ≡ false)
        [ Less ↦ λ t. refl | Equal ↦ λ t. absurd t | Greater ↦ λ t. absurd t ] h)
