-- Texts that are made for one number after another.
use Rattle.std.proofs.Common.{◌≡◌, ℕ, zero, suc, ◌+◌, List, ◌++◌, sym, ◌∙◌, ap, arith, append_assoc}
use Rattle.std.proofs.Common.{add-one}
use Rattle.std.specs.List.{range_with_len, flat_map}
use Rattle.std.proofs.lemmas.List.{append-nil}

more_from : (f : ℕ → List ℕ) (a n j : ℕ) → j ≡ a + n
    → flat_map f (range_with_len a (suc n)) ≡ flat_map f (range_with_len a n) ++ f j
more_from f a zero j is = let same : j ≡ a = omega arith in append-nil (f a) ∙ ap f (sym same)
more_from f a (suc n) j is =
    ap (λ (l : List ℕ). f a ++ l) (more_from f (a + 1) n j (omega arith))
    ∙ sym (append_assoc (f a) (flat_map f (range_with_len (a + 1) n)) (f j))

-- the text of the next number
pub flat_map-range_more : (f : ℕ → List ℕ) (n : ℕ)
    → flat_map f (range_with_len 0 (n + 1)) ≡ flat_map f (range_with_len 0 n) ++ f n
flat_map-range_more f n =
    ap (λ (k : ℕ). flat_map f (range_with_len 0 k)) (add-one n) ∙ more_from f 0 n n (omega arith)

-- a text that has the next number's text behind it
pub text_more : (f : ℕ → List ℕ) (n : ℕ) (before out more : List ℕ)
    → out ≡ before ++ flat_map f (range_with_len 0 n) → more ≡ out ++ f n
    → more ≡ before ++ flat_map f (range_with_len 0 (n + 1))
text_more f n before out more so_far is =
    is ∙ ap (λ (l : List ℕ). l ++ f n) so_far
    ∙ append_assoc before (flat_map f (range_with_len 0 n)) (f n)
    ∙ ap (λ (l : List ℕ). before ++ l) (sym (flat_map-range_more f n))
