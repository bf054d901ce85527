-- The floor of a quotient is the greatest whole number that is at most the quotient.
use Rattle.std.proofs.Common.{◌≡◌, ◌↔◌, ℕ, ℤ, pos, negsuc, zero, suc, neg_ℤ, ◌*◌, ◌/◌, ◌<◌, ◌≤◌}
use Rattle.std.proofs.Common.{◌*ℤ◌, ◌≤ℤ◌, arith, refl, sym}
use Rattle.std.proofs.lemmas.Int.{ints}
use Rattle.std.proofs.Math.Nat.{mul-le-mul_right, div-mul-le_self, div-lt_iff_lt-mul}
use Rattle.std.proofs.lemmas.Nat.{le-div}
use Rattle.std.proofs.Math.IntN.{neg_ℤ-neg_ℤ}
use Rattle.vertex_expr.specs.Floor.{floor_by}

-- ---- at natural numbers

le_quotient : (m a n : ℕ) → (m ≤ a / suc n) ↔ (m * suc n ≤ a)
le_quotient m a n = (
  λ h. omega (arith, mul-le-mul_right (suc n) h, div-mul-le_self a (suc n)),
  λ h. le-div m a (suc n) (omega arith) h,
)

quotient_le : (m a n : ℕ) → (a / suc n ≤ m) ↔ (suc a ≤ suc m * suc n)
quotient_le m a n =
    let positive : 0 < suc n = omega arith in
    let below : (a / suc n < suc m) ↔ (a < suc m * suc n) = div-lt_iff_lt-mul positive in (
      λ h. let l = below.0 (omega arith) in omega (arith, l),
      λ h. let l = below.1 (omega arith) in omega (arith, l),
    )

-- ---- at whole numbers, above 0

pub floor_above : (x q : ℤ) (n : ℕ) → (q ≤ℤ floor_by x (suc n)) ↔ ((q *ℤ pos (suc n)) ≤ℤ x)
floor_above (pos a) (pos m) n = (
  λ h. let l = (le_quotient m a n).0 (omega (arith, ints)) in omega (arith, ints, l),
  λ h. let l = (le_quotient m a n).1 (omega (arith, ints)) in omega (arith, ints, l),
)
floor_above (pos a) (negsuc m) n = (λ h. omega (arith, ints), λ h. omega (arith, ints))
floor_above (negsuc a) (pos m) n = (
  λ h. absurd (omega (arith, ints)),
  λ h. absurd
      (omega (arith, ints)),
)
floor_above (negsuc a) (negsuc m) n = (
  λ h. let l = (quotient_le m a n).0 (omega (arith, ints)) in omega (arith, ints, l),
  λ h. let l = (quotient_le m a n).1 (omega (arith, ints)) in omega (arith, ints, l),
)

-- ---- below 0

times_negsuc : (q : ℤ) (n : ℕ) → (q *ℤ negsuc n) ≡ neg_ℤ (q *ℤ pos (suc n))
times_negsuc (pos zero) n = refl
times_negsuc (pos (suc m)) n = refl
times_negsuc (negsuc m) n = sym (neg_ℤ-neg_ℤ (pos (suc m * suc n)))

negation_turns_le : (x y : ℤ) → (y ≤ℤ neg_ℤ x) ↔ (x ≤ℤ neg_ℤ y)
negation_turns_le x y = (λ h. omega (arith, ints), λ h. omega (arith, ints))

pub floor_below : (x q : ℤ) (n : ℕ) → (q ≤ℤ floor_by (neg_ℤ x) (suc n)) ↔ (x ≤ℤ (q *ℤ negsuc n))
floor_below x q n =
    let above = floor_above (neg_ℤ x) q n in
    let turn = negation_turns_le x (q *ℤ pos (suc n)) in
    rw (times_negsuc q n) (λ h. turn.0 (above.0 h), λ h. above.1 (turn.1 h))
