-- The parts of a program.
use Rattle.std.specs.Prelude.{ℕ, ℤ, pos, Bool, true, false, List, length, replicate}
use Rattle.std.specs.Prelude.{◌<◌, slice_index_or, map, FitsSigned}
use Rattle.std.specs.Int.{w64}
use Rattle.std.specs.List.{range_with_len}
use Rattle.range_check.specs.Gathered.{with_one}
use Rattle.vertex_expr.specs.Writable.{values_of}
use Rattle.vertex_expr.specs.declared.program.Combine.{Combine}
use Rattle.vertex_expr.specs.declared.program.Combine.TheVariants.{Sum}
use Rattle.vertex_expr.specs.declared.program.ProgramEntries.{ProgramEntries}

-- the number of lanes
abbrev pub lanes : ProgramEntries → ℕ
lanes p = length p.ranges

-- the numbers of the params
abbrev pub params : ProgramEntries → List ℤ
params p = values_of p.params

-- a number for each lane
abbrev pub by_lane : ProgramEntries → (ℕ → ℤ) → List ℤ
by_lane p f = map f (range_with_len 0 (lanes p))

-- the number of a lane
abbrev pub number : List ℤ → ℕ → ℤ
number xs l = slice_index_or xs l (pos 0)

-- a 0 for each lane
abbrev pub zeros : ProgramEntries → List ℤ
zeros p = replicate (lanes p) (pos 0)

-- totals with one contribution more, in each lane
abbrev pub with_ones : ProgramEntries → List ℤ → List ℤ → List ℤ
with_ones p totals ones = by_lane p (λ l. with_one p.combine (number totals l) (number ones l))

-- which fit
abbrev pub OnesFit : ProgramEntries → List ℤ → List ℤ → Type 0
OnesFit p totals ones = (l : ℕ) → l < lanes p
    → FitsSigned w64 (with_one p.combine (number totals l) (number ones l))

-- contributions are added, not their least or greatest taken
abbrev pub is_sum : Combine → Bool
is_sum Sum = true
is_sum _ = false
