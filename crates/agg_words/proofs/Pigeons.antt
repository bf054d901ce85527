-- Bits that are below a number, each once, are no more than that number.
use Rattle.std.proofs.Common.{ℕ, zero, suc, eq-eqb, ne_eqb, ◌<◌, ◌≤◌, List, [], ◌∷◌, length, cond}
use Rattle.std.proofs.Common.{refl, arith}
use Rattle.std.specs.Prelude.{All, filter, not, ◌==◌}
use Rattle.std.proofs.lemmas.List.Elements.{All-nil, All-cons, All-head, All-tail}
use Rattle.std.proofs.lemmas.List.Filters.{length-filter_both, sum_by-filter_both}
use Rattle.std.proofs.lemmas.List.Sums.{length-filter}
use mathlib.Core.Logic.{dite}
use native.Mathlib.Decide.{ℕ_discrete}
use Rattle.agg_words.specs.View.{times}

-- those that aren't the greatest one are below it
others_below : (n : ℕ) (bits : List ℕ) → All (λ b. b < suc n) bits
    → All (λ b. b < n) (filter (λ b. not (b == n)) bits)
others_below n [] all = All-nil (λ b. b < n)
others_below n (c ∷ bits) all =
    let rest = others_below n bits (All-tail (λ b. b < suc n) c bits all) in
    let below : c < suc n = All-head (λ b. b < suc n) c bits all in
    dite (ℕ_discrete c n)
    (λ e. rw (eq-eqb c n e) rest)
    (λ apart. rw (ne_eqb c n apart) (All-cons (λ b. b < n) c (filter (λ b. not (b == n)) bits)
    (omega arith) rest))

pub few_bits : (n : ℕ) (bits : List ℕ) → All (λ b. b < n) bits → ((b : ℕ) → times b bits ≤ 1)
    → length bits ≤ n
few_bits zero [] all once = omega arith
few_bits zero (c ∷ bits) all once = absurd
    (let below : c < 0 = All-head (λ b. b < 0) c bits all in omega arith)
few_bits (suc n) bits all once =
    let fewer = few_bits n (filter (λ b. not (b == n)) bits) (others_below n bits all)
    (λ c. let parts = sum_by-filter_both (λ b. b == n) (λ b. not (b == n)) (λ b. refl)
    (λ b. cond (b == c) 1 0) bits in let one = once c in omega arith) in
    let parts = length-filter_both (λ b. b == n) (λ b. not (b == n)) (λ b. refl) bits in
    let counted = length-filter (λ b. b == n) bits in
    let one = once n in
    omega arith
