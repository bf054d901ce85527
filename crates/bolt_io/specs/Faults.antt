-- Counts of faults.
use Rattle.std.specs.Prelude.{ℕ, ◌+◌, ◌-◌, ◌^◌, ◌<◌, ◌≤◌, min}
use Rattle.std.proofs.Common.{arith}

-- a count, which stays at u64's greatest value once it is there
abbrev pub count_of : ℕ → ℕ
count_of n = min n (2 ^ 64 - 1)

-- the count after one more
abbrev pub one_more : ℕ → ℕ
one_more n = count_of (n + 1)

-- the count rose in a call, or stands at its greatest value after it
abbrev pub Rose : ℕ → ℕ → Type 0
Rose old new = one_more old ≤ new

-- a count is a u64
pub count_of-fits : (n : ℕ) → count_of n < 2 ^ 64
count_of-fits n = omega arith

-- and so is none
pub none_fits : 0 < 2 ^ 64
none_fits = omega arith
