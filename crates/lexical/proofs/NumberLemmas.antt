-- Numbers digit by digit.
use Rattle.std.proofs.Common.{◌≡◌, ℕ, ◌+◌, ◌-◌, ◌*◌, ◌^◌, ◌<◌, min, List, [], ◌∷◌, ◌++◌, length}
use Rattle.std.proofs.Common.{get_or, take, arith}
use Rattle.std.proofs.lemmas.List.Sums.{fold_more, fold-append}
use Rattle.lexical.specs.Numbers.{decimal_value}

-- a number that is capped at each step is the capped number
pub capped_step : (n d : ℕ) → min (min (min n (2 ^ 64 - 1) * 10) (2 ^ 64 - 1) + d) (2 ^ 64 - 1)
    ≡ min (n * 10 + d) (2 ^ 64 - 1)
capped_step n d = omega arith

pub decimal_value-more : (word : List ℕ) (i : ℕ) → i < length word
    → decimal_value (take (i + 1) word) ≡ decimal_value (take i word) * 10 + (get_or word i 0 - 48)
decimal_value-more word i l = fold_more (λ n b. n * 10 + (b - 48)) 0 word i 0 l

-- one more digit
pub decimal_value-append : (digits : List ℕ) (d : ℕ)
    → decimal_value (digits ++ d ∷ []) ≡ decimal_value digits * 10 + (d - 48)
decimal_value-append digits d = fold-append (λ n b. n * 10 + (b - 48)) 0 digits (d ∷ [])
