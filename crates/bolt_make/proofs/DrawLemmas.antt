-- Pairs that are drawn one after another.
use Rattle.std.proofs.Common.{◌≡◌, ℕ, suc, ◌+◌, ◌-◌, ◌<◌, ◌≤◌, List, [], ◌∷◌, ◌++◌, sym, ap, ◌∙◌}
use Rattle.std.proofs.Common.{arith}
use Rattle.std.proofs.lemmas.List.{append_assoc}
use Rattle.bolt_base.specs.Graph.{Pair}
use Rattle.bolt_make.specs.Draws.{drawn, drawn_pair, drawn_pairs, after_pairs}

-- the first of the pairs that are left
drawn_pairs-next : (n count i x : ℕ) → i < count
    → drawn_pairs n (count - i) x ≡ drawn_pair n x ∷ drawn_pairs n (count - (i + 1))
    (drawn (drawn x))
drawn_pairs-next n count i x l =
    let e : count - i ≡ suc (count - (i + 1)) = omega arith in
    ap (λ k. drawn_pairs n k x) e

-- a pair that is drawn goes over to the pairs so far
pub pairs_so_far : (n count i x x' : ℕ) (xs ys : List Pair) (p : Pair) → i < count
    → p ≡ drawn_pair n x → x' ≡ drawn (drawn x) → ys ≡ xs ++ p ∷ []
    → ys ++ drawn_pairs n (count - (i + 1)) x' ≡ xs ++ drawn_pairs n (count - i) x
pairs_so_far n count i x x' xs ys p l is state more =
    let rest : List Pair = drawn_pairs n (count - (i + 1)) x' in
    ap (λ zs. zs ++ rest) more
    ∙ append_assoc xs (p ∷ []) rest
    ∙ (λ j. xs ++ is j ∷ drawn_pairs n (count - (i + 1)) (state j))
    ∙ ap (λ zs. xs ++ zs) (sym (drawn_pairs-next n count i x l))

pub draws_so_far : (count i x x' : ℕ) → i < count → x' ≡ drawn (drawn x)
    → after_pairs (count - (i + 1)) x' ≡ after_pairs (count - i) x
draws_so_far count i x x' l state =
    let e : suc (count - (i + 1)) ≡ count - i = omega arith in
    ap (after_pairs (count - (i + 1))) state ∙ ap (λ k. after_pairs k x) e

-- none are left at the end
pub pairs_at_end : (n count i x : ℕ) → count ≤ i → drawn_pairs n (count - i) x ≡ []
pairs_at_end n count i x l = let e : count - i ≡ 0 = omega arith in ap (λ k. drawn_pairs n k x) e

pub draws_at_end : (count i x : ℕ) → count ≤ i → after_pairs (count - i) x ≡ x
draws_at_end count i x l = let e : count - i ≡ 0 = omega arith in ap (λ k. after_pairs k x) e
