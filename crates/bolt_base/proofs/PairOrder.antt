-- How pairs of vertices compare.
use Rattle.std.proofs.Common.{◌≡◌, ◌≢◌, ℕ, ◌<◌, false, T, refl, sym, ap, subst, arith}
use Rattle.std.specs.Ordering.{nat_cmp, is_eq, is_lt, eq_by_cmp, ordering_then}
use Rattle.std.specs.declared.cmp.Ordering.{Ordering}
use Rattle.std.specs.declared.cmp.Ordering.TheVariants.{Less, Equal, Greater}
use Rattle.std.proofs.lemmas.Cmp.{ranked}
use Rattle.std.proofs.lemmas.Bool.{lt-ltb}
use Rattle.std.proofs.lemmas.Bool.Decides.{nat_tests}
use Rattle.bolt_base.specs.Graph.{pair_cmp}

nat_cmp-equal : (s u : ℕ) → s ≡ u → nat_cmp s u ≡ Equal
nat_cmp-equal s u e = grind (arith, nat_tests)

nat_cmp-less : (a b : ℕ) → a < b → nat_cmp a b ≡ Less
nat_cmp-less a b h = rw (lt-ltb a b h)

-- pairs of one source compare as their destinations
pub same_src : (s d u v : ℕ) → s ≡ u → eq_by_cmp pair_cmp (s, d) (u, v) ≡ eq_by_cmp nat_cmp d v
same_src s d u v e = ap (λ r. is_eq (ordering_then r (nat_cmp d v))) (nat_cmp-equal s u e)

pub other_src : (s d u v : ℕ) → s ≢ u → eq_by_cmp pair_cmp (s, d) (u, v) ≡ false
other_src s d u v apart = elim (nat_cmp s u) as
    (λ r. nat_cmp s u ≡ r → is_eq (ordering_then r (nat_cmp d v)) ≡ false) [
      | Less ↦ λ _. refl
      | Equal ↦ λ e. absurd (apart (ranked s u Equal (sym e)))
      | Greater ↦ λ _. refl
    ] refl

-- pairs of one destination compare as their sources
pub alike_dst : (s d u v : ℕ) → d ≡ v → eq_by_cmp pair_cmp (s, d) (u, v) ≡ eq_by_cmp nat_cmp s u
alike_dst s d u v e = elim (nat_cmp s u) as (λ r. is_eq (ordering_then r (nat_cmp d v)) ≡ is_eq r) [
  | Less ↦ refl
  | Equal ↦ ap is_eq (nat_cmp-equal d v e)
  | Greater ↦ refl
]

pub apart_dst : (s d u v : ℕ) → d ≢ v → eq_by_cmp pair_cmp (s, d) (u, v) ≡ false
apart_dst s d u v n = elim (nat_cmp d v) as
    (λ r. nat_cmp d v ≡ r → is_eq (ordering_then (nat_cmp s u) r) ≡ false) [
      | Less ↦ λ _. never (nat_cmp s u) Less refl
      | Equal ↦ λ e. absurd (n (ranked d v Equal (sym e)))
      | Greater ↦ λ _. never (nat_cmp s u) Greater refl
    ] refl
  where
    never : (r t : Ordering) → is_eq t ≡ false → is_eq (ordering_then r t) ≡ false
    never Less t e = refl
    never Equal t e = e
    never Greater t e = refl

-- a lower source comes first, and then a lower destination
pub lower_src : (s d u v : ℕ) → s < u → T (is_lt (pair_cmp (s, d) (u, v)))
lower_src s d u v h = subst (λ r. T (is_lt (ordering_then r (nat_cmp d v))))
    (sym (nat_cmp-less s u h)) tt

pub lower_dst : (u d v : ℕ) → T (is_lt (nat_cmp d v)) → T (is_lt (pair_cmp (u, d) (u, v)))
lower_dst u d v h = subst (λ r. T (is_lt (ordering_then r (nat_cmp d v))))
    (sym (nat_cmp-equal u u refl)) h
