-- Sums of numbers of 64 bits, and of a lane over the first vertices.
use Rattle.std.proofs.Common.{◌≡◌, ℕ, ℤ, pos, negsuc, ◌+ℤ◌, ◌≤ℤ◌, ◌+◌, ◌*◌, ◌^◌, ◌<◌, ◌≤◌, arith}
use Rattle.std.proofs.Common.{FitsSigned, w64, to_z, of_z, [], length, take, get_or, ap, sym}
use Rattle.std.proofs.Common.{◌∙◌}
use Rattle.std.specs.Int.{w128}
use Rattle.std.proofs.lemmas.Int.{ints, to_z-of_z}
use Rattle.std.proofs.lemmas.List.Sums.{fold_more}
use Rattle.run_model.specs.Program.{number}
use Rattle.run_model.specs.Rows.{Lists, lane_total}

-- what n numbers of 64 bits may come to
pub record IsSumOf (n : ℕ) (s : ℤ) : Type 0 where
  pub least : pos 0 ≤ℤ (s +ℤ pos (n * 9223372036854775808))
  pub most : s ≤ℤ pos (n * 9223372036854775808)

pub sum_grows : (n : ℕ) (s x : ℤ) → IsSumOf n s → FitsSigned w64 x → IsSumOf (n + 1) (s +ℤ x)
sum_grows n s (pos m) h f =
    let low : m < 2 ^ 63 = f.sfits in
    record {
      least = omega (arith, ints, h.least, low);
      most = omega (arith, ints, h.most, low);
    }
sum_grows n s (negsuc m) h f =
    let low : m < 2 ^ 63 = f.sfits in
    record {
      least = omega (arith, ints, h.least, low);
      most = omega (arith, ints, h.most, low);
    }

pub sum_fits : (n : ℕ) (s : ℤ) → n ≤ 2 ^ 32 → IsSumOf n s → FitsSigned w128 s
sum_fits n (pos m) few h =
    let low : m < 2 ^ 127 = omega (arith, ints, h.most, few) in record { sfits = low }
sum_fits n (negsuc m) few h =
    let low : m < 2 ^ 127 = omega (arith, ints, h.least, few) in record { sfits = low }

fits_wider : (x : ℤ) → FitsSigned w64 x → FitsSigned w128 x
fits_wider (pos m) f =
    let low : m < 2 ^ 63 = f.sfits in
    let wide : m < 2 ^ 127 = omega (arith, low) in record { sfits = wide }
fits_wider (negsuc m) f =
    let low : m < 2 ^ 63 = f.sfits in
    let wide : m < 2 ^ 127 = omega (arith, low) in record { sfits = wide }

-- a sum in 128 bits takes one more in
pub sum_is_exact : (n : ℕ) (s x : ℤ) → n + 1 ≤ 2 ^ 32 → IsSumOf n s → FitsSigned w64 x
    → to_z w128 (of_z w128 (s +ℤ to_z w128 (of_z w128 x))) ≡ s +ℤ x
sum_is_exact n s x few h f =
    ap (λ (y : ℤ). to_z w128 (of_z w128 (s +ℤ y))) (to_z-of_z w128 x (fits_wider x f))
    ∙ to_z-of_z w128 (s +ℤ x) (sum_fits (n + 1) (s +ℤ x) few (sum_grows n s x h f))

pub lane_total_grows : (values : Lists) (lane i : ℕ) (s x : ℤ) → i < length values
    → s ≡ lane_total lane (take i values) → x ≡ number (get_or values i []) lane
    → s +ℤ x ≡ lane_total lane (take (i + 1) values)
lane_total_grows values lane i s x inside is one =
    (λ j. is j +ℤ one j)
    ∙ sym (fold_more (λ t xs. t +ℤ number xs lane) (pos 0) values i [] inside)
