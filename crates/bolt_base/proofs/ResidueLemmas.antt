-- Numbers modulo 2^64, and their sums.
use Rattle.std.proofs.Common.{◌≡◌, Bool, ℕ, ℤ, pos, negsuc, suc, ◌+◌, ◌-◌, ◌*◌, ◌%◌, ◌^◌, ◌<◌, ◌+ℤ◌}
use Rattle.std.proofs.Common.{eqb, List, [], ◌∷◌, ◌++◌, filter, fold, sym, ap, ◌∙◌, arith, refl}
use Rattle.std.proofs.Common.{FitsSigned, w64}
use Rattle.std.specs.Prelude.{unsigned_abs, sum_by}
use Rattle.std.specs.Int.{cast_signed, int_wrap}
use Rattle.std.proofs.lemmas.Int.{ints, int_rem_euclid_is, int_wrap_fits}
use Rattle.std.proofs.lemmas.List.Elements.{filter-append}
use Rattle.std.proofs.lemmas.List.Sums.{sum_by-cons, sum_by-append}
use Rattle.std.proofs.Math.Nat.{add-mod, add-mod-mod, mod-lt}
use Rattle.bolt_base.specs.Residue.{Amount, residue, sum_at}
use Rattle.bolt_base.proofs.Totals.{total, fold-total}

-- a natural number is the number and some turns of 2^64
natural_by_turns : (z : ℤ) → (k : ℕ) × (m : ℕ) × (z +ℤ pos (k * 2 ^ 64) ≡ pos m)
natural_by_turns (pos n) = (0, n, omega (arith, ints))
natural_by_turns (negsuc n) = (suc n, suc n * (2 ^ 64 - 1), omega (arith, ints))

residue_is : (z : ℤ) (k m : ℕ) → z +ℤ pos (k * 2 ^ 64) ≡ pos m → residue z ≡ m % 2 ^ 64
residue_is z k m e = ap unsigned_abs
    (int_rem_euclid_is z (pos (2 ^ 64)) (2 ^ 64) k m (omega arith) refl e)

pub residue-lt : (z : ℤ) → residue z < 2 ^ 64
residue-lt z = let t = natural_by_turns z in let is = residue_is z t.0 t.1 t.2 in let below =
    mod-lt (t.1)
    {m = 2 ^ 64} (omega arith) in omega arith

pub residue-add : (a b : ℤ) → residue (a +ℤ b) ≡ (residue a + residue b) % 2 ^ 64
residue-add a b =
    let s = natural_by_turns a in
    let t = natural_by_turns b in
    let both : (a +ℤ b) +ℤ pos ((s.0 + t.0) * 2 ^ 64)
    ≡ pos (s.1 + t.1) = omega (arith, ints, s.2, t.2) in
    residue_is (a +ℤ b) (s.0 + t.0) (s.1 + t.1) both ∙ add-mod (s.1) (t.1) (2 ^ 64)
    ∙ ap (λ x. (x + t.1 % 2 ^ 64) % 2 ^ 64) (sym (residue_is a s.0 s.1 s.2))
    ∙ ap (λ x. (residue a + x) % 2 ^ 64) (sym (residue_is b t.0 t.1 t.2))

-- a number that fits i64 is its residue, read as two's complement
pub signed-residue : (z : ℤ) → FitsSigned w64 z → cast_signed w64 (residue z) ≡ z
unfolding int_wrap
signed-residue z f = int_wrap_fits w64 z f

pub sum_at-append : (w : ℕ) (a b : List Amount)
    → sum_at w (a ++ b) ≡ (sum_at w a + sum_at w b) % 2 ^ 64
sum_at-append w a b =
    let at : Amount → Bool = λ x. eqb x.word w in
    let amount : Amount → ℕ = λ x. x.amount in
    ap (λ xs. sum_by amount xs % 2 ^ 64) (filter-append at a b)
    ∙ ap (λ n. n % 2 ^ 64) (sum_by-append amount (filter at a) (filter at b))
    ∙ add-mod (sum_by amount (filter at a)) (sum_by amount (filter at b)) (2 ^ 64)

-- many residues sum to the residue of the sum
pub residues-total : {X : Type 0} (f : X → ℤ) (xs : List X)
    → sum_by (λ x. residue (f x)) xs % 2 ^ 64 ≡ residue (total f xs)
residues-total f [] = refl
residues-total f (x ∷ xs) =
    ap (λ n. n % 2 ^ 64) (sum_by-cons (λ y. residue (f y)) x xs)
    ∙ sym (add-mod-mod (residue (f x)) (sum_by (λ y. residue (f y)) xs) (2 ^ 64))
    ∙ ap (λ n. (residue (f x) + n) % 2 ^ 64) (residues-total f xs)
    ∙ sym (residue-add (f x) (total f xs))

pub residues-fold : (zs : List ℤ)
    → sum_by residue zs % 2 ^ 64 ≡ residue (fold (λ sum z. sum +ℤ z) (pos 0) zs)
residues-fold zs =
    residues-total (λ z. z) zs
    ∙ ap residue (let e : total (λ z. z) zs ≡ pos 0 +ℤ total (λ z. z) zs = omega (arith, ints) in e
    ∙ sym (fold-total (λ z. z) (pos 0) zs))
