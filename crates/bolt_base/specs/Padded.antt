-- The words of a value: a number for each lane, and zeros past them.
use Rattle.std.specs.Prelude.{◌≡◌, ℕ, ℤ, pos, ◌-◌, ◌+◌, ◌≤◌, ◌<◌, List, ◌++◌, length, take}
use Rattle.std.specs.Prelude.{replicate}
use Rattle.std.proofs.Common.{arith, sym, refl, ap, ◌∙◌, length-take, zero, suc, ◌∷◌, set, zero-add}
use Rattle.std.proofs.Math.ListN.{length-set, length-replicate}
use Rattle.std.proofs.Math.Seq.{take-set-lt}
use Rattle.std.proofs.lemmas.List.{set-append_left}

-- the numbers, and zeros up to eight
abbrev pub padded : List ℤ → List ℤ
padded xs = xs ++ replicate (8 - length xs) (pos 0)

-- one to eight lanes in eight words, of which those past the lanes are 0
pub record IsPadded (width : ℕ) (word : List ℤ) : Type 0 where
  pub some : 1 ≤ width
  pub narrow : width ≤ 8
  pub long : length word ≡ 8
  pub zeros : padded (take width word) ≡ word

pub length-taken : (w : ℕ) (word : List ℤ) → IsPadded w word → length (take w word) ≡ w
length-taken w word h = let a = h.narrow in let b = h.long in omega (arith, length-take w word)

-- the first n of many zeros
pub take-replicate : (n m : ℕ) (x : ℤ) → n ≤ m → take n (replicate m x) ≡ replicate n x
take-replicate zero m x h = refl
take-replicate (suc n) zero x h = absurd (omega arith)
take-replicate (suc n) (suc m) x h = ap (λ xs. x ∷ xs) (take-replicate n m x (omega arith))

replicate-append : (n m : ℕ) (x : ℤ) → replicate n x ++ replicate m x ≡ replicate (n + m) x
replicate-append zero m x = ap (λ k. replicate k x) (sym (zero-add m))
replicate-append (suc n) m x = ap (λ xs. x ∷ xs) (replicate-append n m x)
    ∙ ap (λ k. replicate k x) (let e : suc (n + m) ≡ suc n + m = omega arith in e)

zeros_after : (w : ℕ) → w ≤ 8 → padded (replicate w (pos 0)) ≡ replicate 8 (pos 0)
zeros_after w h =
    ap (λ n. replicate w (pos 0) ++ replicate (8 - n) (pos 0)) (length-replicate w (pos 0))
    ∙ replicate-append w (8 - w) (pos 0)
    ∙ ap (λ k. replicate k (pos 0)) (let e : w + (8 - w) ≡ 8 = omega arith in e)

-- eight zeros are padded at any width
pub zeros_padded : (w : ℕ) → 1 ≤ w → w ≤ 8 → IsPadded w (replicate 8 (pos 0))
zeros_padded w some h = record {
  some = some;
  narrow = h;
  long = refl;
  zeros = rw (take-replicate w 8 (pos 0) h) (zeros_after w h);
}

-- a write below the width keeps the padding
pub set_padded : (w : ℕ) (word : List ℤ) (k : ℕ) (x : ℤ) → k < w → IsPadded w word
    → IsPadded w (set word k x)
set_padded w word k x l h = record {
  some = h.some;
  narrow = h.narrow;
  long = length-set word k x ∙ h.long;
  zeros =
      let a = h.narrow in
      let b = h.long in
      let front : take w (set word k x) ≡ set (take w word) k x = take-set-lt w word k x l in
      let inside : k < length (take w word) = omega (arith, length-take w word) in
      ap padded front ∙ ap (λ n. set (take w word) k x ++ replicate (8 - n) (pos 0))
      (length-set (take w word) k x)
      ∙ sym (set-append_left (take w word) (replicate (8 - length (take w word)) (pos 0)) k x
      inside)
      ∙ ap (λ xs. set xs k x) h.zeros;
}
