-- What the range check refuses, in its order.
use Rattle.std.specs.Prelude.{◌≡◌, ◌^◌, ◌-◌, ◌&&◌, ℕ, pos, neg_ℤ, int_le, Bool, if◌then◌else◌, List}
use Rattle.std.specs.Prelude.{[], ◌∷◌, ◌++◌, map, Option, Some, None, All}
use Rattle.std.specs.List.{enumerate_from, zip}
use Rattle.std.specs.Option.{option_or}
use Rattle.vertex_expr.specs.ProgramBounds.{bounds_in, trees_in, spans_in, contributed, aggregated}
use Rattle.vertex_expr.specs.Safe.{Break, zero_divisor, too_wide, breaks}
use Rattle.vertex_expr.specs.Span.{Span}
use Rattle.vertex_expr.specs.Writable.{IsWritable, values_of}
use Rattle.vertex_expr.specs.declared.expr.Part.{Part}
use Rattle.vertex_expr.specs.declared.expr.Part.TheVariants.{Init, Contribute, Apply}
use Rattle.vertex_expr.specs.declared.program.LaneRange.{LaneRange}
use Rattle.vertex_expr.specs.declared.program.ProgramEntries.{ProgramEntries}
use Rattle.range_check.specs.declared.refusal.RangeRefusal.{RangeRefusal}
use Rattle.range_check.specs.declared.refusal.RangeRefusal.TheVariants.{Zero, Wide, Sum, Value}

-- whether the interval lies within i64
abbrev pub is_word : Span → Bool
is_word s = int_le (neg_ℤ (pos (2 ^ 63))) s.low && int_le s.high (pos (2 ^ 63 - 1))

-- whether the interval lies within a lane's range
abbrev pub is_within : LaneRange → Span → Bool
is_within r s = int_le r.lo s.low && int_le s.high r.hi

-- ---- single breaks, each with the number of its node or lane

-- the refusal of a node of the part for its break
abbrev pub node_break : Part → ℕ → Option Break → Option RangeRefusal
node_break part node None = None
node_break part node (Some zero_divisor) = Some (Zero part node)
node_break part node (Some too_wide) = Some (Wide part node)

-- the interval of the part's expression for the lane isn't within the lane's range
abbrev pub value_break : Part → ℕ → Span → LaneRange → Option RangeRefusal
value_break part lane s r = if is_within r s then None else Some (Value part lane s.low s.high)

-- the interval of the lane's contributions isn't within i64, or that of their aggregate isn't
abbrev pub sum_break : ℕ → Span → Span → Option RangeRefusal
sum_break lane contribution aggregate =
    if is_word contribution && is_word aggregate then None else Some (Sum lane)

-- ---- the places where a break may be, in order

-- the nodes of a part
abbrev pub node_breaks : ProgramEntries → Part → List (Option RangeRefusal)
node_breaks p part =
    map (λ n. node_break part n.0 n.1)
    (enumerate_from 0 (breaks (values_of p.params) (bounds_in p part) (trees_in p part)))

-- the lanes of a part, against their ranges
abbrev pub value_breaks : ProgramEntries → Part → List (Option RangeRefusal)
value_breaks p part =
    map (λ n. value_break part n.0 n.1.0 n.1.1)
    (enumerate_from 0 (zip (spans_in p part) p.ranges))

-- the lanes of the contributions and of their aggregates
abbrev pub sum_breaks : ProgramEntries → List (Option RangeRefusal)
sum_breaks p =
    map (λ n. sum_break n.0 n.1.0 n.1.1) (enumerate_from 0 (zip (contributed p) (aggregated p)))

-- init's nodes and values; contribute's nodes; the sums; apply's nodes and values
abbrev pub possible_breaks : ProgramEntries → List (Option RangeRefusal)
possible_breaks p =
    node_breaks p Init ++ value_breaks p Init ++ node_breaks p Contribute ++ sum_breaks p
    ++ node_breaks p Apply ++ value_breaks p Apply

-- the first that is there
abbrev pub first_some : {X : Type 0} → List (Option X) → Option X
first_some [] = None
first_some (x ∷ xs) = option_or x (first_some xs)

-- the first break of a program, if it has one
abbrev pub first_break : ProgramEntries → Option RangeRefusal
first_break p = first_some (possible_breaks p)

-- the program has no break
abbrev pub IsUnbroken : ProgramEntries → Type 0
IsUnbroken p = All (λ b. b ≡ None) (possible_breaks p)

-- a text can have the entries, and the program is safe: it has no break
pub record IsAccepted (p : ProgramEntries) : Type 0 where
  pub writable : IsWritable p
  pub unbroken : IsUnbroken p
