-- Intervals.
use Rattle.std.specs.Prelude.{◌≤◌, ◌<◌, ◌≤ℤ◌, ◌^◌, ◌&&◌, ℕ, ℤ, pos, neg_ℤ, Bool, int_le, List}
use Rattle.std.specs.Prelude.{length, slice_index_or, Option, Some, None}
use Rattle.std.specs.Int.{int_min, int_max}

-- the whole numbers from low to high
pub record Span : Type 0 where
  pub low : ℤ
  pub high : ℤ

-- the interval of one number
abbrev pub only : ℤ → Span
only x = record { low = x; high = x }

-- the number lies in the interval
pub record IsIn (s : Span) (x : ℤ) : Type 0 where
  pub above : s.low ≤ℤ x
  pub below : x ≤ℤ s.high

-- each number lies in the interval of its place; there may be further numbers
pub record AreIn (spans : List Span) (xs : List ℤ) : Type 0 where
  pub long : length spans ≤ length xs
  pub each : (k : ℕ) → k < length spans
      → IsIn (slice_index_or spans k (only (pos 0))) (slice_index_or xs k (pos 0))

-- the number lies in the interval, if there is one
abbrev pub IsInAny : Option Span → ℤ → Type 0
IsInAny None x = Unit {0}
IsInAny (Some s) x = IsIn s x

-- from -2^120 to 2^120
pub record IsSmall (x : ℤ) : Type 0 where
  pub low : neg_ℤ (pos (2 ^ 120)) ≤ℤ x
  pub high : x ≤ℤ pos (2 ^ 120)

-- the interval lies within -2^120 to 2^120
pub record IsNarrow (s : Span) : Type 0 where
  pub low : neg_ℤ (pos (2 ^ 120)) ≤ℤ s.low
  pub high : s.high ≤ℤ pos (2 ^ 120)

-- the same, as a test
abbrev pub is_narrow : Span → Bool
is_narrow s = int_le (neg_ℤ (pos (2 ^ 120))) s.low && int_le s.high (pos (2 ^ 120))

-- whether the interval holds 0
abbrev pub holds_zero : Span → Bool
holds_zero s = int_le s.low (pos 0) && int_le (pos 0) s.high

-- from the least to the greatest of four numbers
abbrev pub hull : ℤ → ℤ → ℤ → ℤ → Span
hull p q r s = record {
  low = int_min (int_min p q) (int_min r s);
  high = int_max (int_max p q) (int_max r s);
}

abbrev pub least_span : Span → Span → Span
least_span s t = record { low = int_min s.low t.low; high = int_min s.high t.high }

abbrev pub greatest_span : Span → Span → Span
greatest_span s t = record { low = int_max s.low t.low; high = int_max s.high t.high }

-- from the least lower end to the greatest upper end
abbrev pub joined : Span → Span → Span
joined s t = record { low = int_min s.low t.low; high = int_max s.high t.high }
