-- The arithmetic of intervals.
use Rattle.std.specs.Prelude.{ℕ, ℤ, pos, ◌+ℤ◌, ◌-ℤ◌, ◌*ℤ◌, ◌^◌, ◌-◌, neg_ℤ, ◌&&◌, ◌≤ℤ◌}
use Rattle.std.specs.Prelude.{if◌then◌else◌, Option, Some, None}
use Rattle.std.specs.Int.{int_min, int_max}
use Rattle.vertex_expr.specs.Floor.{floor_div}
use Rattle.vertex_expr.specs.ProgramBounds.{combined}
use Rattle.vertex_expr.specs.Span.{Span, IsSmall, IsNarrow, is_narrow, hull, least_span}
use Rattle.vertex_expr.specs.Span.{greatest_span}
use Rattle.vertex_expr.specs.declared.program.Combine.{Combine}
use Rattle.range_check.specs.Breaks.{is_word}

-- an interval with both ends in order, within -2^120 to 2^120
pub record IsProper (s : Span) : Type 0 where
  pub order : s.low ≤ℤ s.high
  pub narrow : IsNarrow s

-- the products of a number with both ends are within -2^120 to 2^120
pub record AreSmall (x : ℤ) (s : Span) : Type 0 where
  pub low : IsSmall (x *ℤ s.low)
  pub high : IsSmall (x *ℤ s.high)

-- the interval, unless it leaves -2^120 to 2^120
abbrev pub narrowed : Span → Option Span
narrowed s = if is_narrow s then Some s else None

abbrev pub span : ℤ → ℤ → Span
span low high = record { low = low; high = high }

abbrev pub plus_span : Span → Span → Span
plus_span s t = record { low = s.low +ℤ t.low; high = s.high +ℤ t.high }

abbrev pub minus_span : Span → Span → Span
minus_span s t = record { low = s.low -ℤ t.high; high = s.high -ℤ t.low }

abbrev pub times_span : Span → Span → Span
times_span s t =
    hull (s.low *ℤ t.low) (s.low *ℤ t.high) (s.high *ℤ t.low) (s.high *ℤ t.high)

abbrev pub over_span : Span → Span → Span
over_span s t =
    hull (floor_div s.low t.low) (floor_div s.low t.high)
    (floor_div s.high t.low) (floor_div s.high t.high)

abbrev pub clamp_span : Span → Span → Span → Span
clamp_span s low high = greatest_span low (least_span s high)

-- the number lies within i64
pub record IsWord (x : ℤ) : Type 0 where
  pub low : neg_ℤ (pos (2 ^ 63)) ≤ℤ x
  pub high : x ≤ℤ pos (2 ^ 63 - 1)

-- the sums of up to so many numbers from low to high
abbrev pub sum_span : ℤ → ℤ → ℕ → Span
sum_span low high degree = record {
  low = int_min (pos 0) (pos degree *ℤ low);
  high = int_max (pos 0) (pos degree *ℤ high);
}

-- the aggregate's interval, unless it or that of the contributions leaves i64
abbrev pub aggregate_of : Combine → ℕ → Span → Option Span
aggregate_of c degree s =
    if is_word s && is_word (combined c degree s) then Some (combined c degree s) else None
