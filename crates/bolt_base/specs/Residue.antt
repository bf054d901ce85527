-- Amounts modulo 2^64, and what they sum to.
use Rattle.std.specs.Prelude.{ℕ, ℤ, pos, ◌+◌, ◌*◌, ◌^◌, ◌%◌, ◌==◌, List, filter, sum_by}
use Rattle.std.specs.Prelude.{unsigned_abs}
use Rattle.std.specs.Int.{int_rem_euclid}

-- the number modulo 2^64
abbrev pub residue : ℤ → ℕ
residue z = unsigned_abs (int_rem_euclid z (pos (2 ^ 64)))

-- the word of a lane of a vertex, each vertex having so many lanes
abbrev pub word_at : ℕ → ℕ → ℕ → ℕ
word_at lanes v l = v * lanes + l

-- an amount, below 2^64, for a word
pub record Amount : Type 0 where
  pub word : ℕ
  pub amount : ℕ

-- the sum modulo 2^64 of the amounts for a word
abbrev pub sum_at : ℕ → List Amount → ℕ
sum_at w amounts = sum_by (λ a. a.amount) (filter (λ a. a.word == w) amounts) % 2 ^ 64
