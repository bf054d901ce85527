-- Laws of the definitions, each the clause of a public function.
use Rattle.std.specs.Prelude.{◌≡◌, ◌<◌, ◌≤◌, ℕ, ℤ, pos, List, All, length, slice_index_or, Option}
use Rattle.std.specs.Prelude.{Some, None, MatchOption, FitsSigned}
use mir.Syntax.{w64}
use Rattle.vertex_expr.specs.Box.{InBounds}
use Rattle.vertex_expr.specs.Meaning.{ev}
use Rattle.vertex_expr.specs.ProgramBounds.{bounds_in, trees_in, lane_spans, contributed}
use Rattle.vertex_expr.specs.ProgramBounds.{aggregated}
use Rattle.vertex_expr.specs.Safe.{IsEvaluable, IsSafe}
use Rattle.vertex_expr.specs.Span.{Span, only, IsIn}
use Rattle.vertex_expr.specs.Tree.{Tree, literal}
use Rattle.vertex_expr.specs.Writable.{values_of}
use Rattle.vertex_expr.specs.declared.env.Env.{Env}
use Rattle.vertex_expr.specs.declared.expr.Part.{Part}
use Rattle.vertex_expr.specs.declared.expr.Part.TheVariants.{Init, Contribute, Apply}
use Rattle.vertex_expr.specs.declared.program.ProgramEntries.{ProgramEntries}
use Rattle.range_check.specs.Breaks.{IsAccepted, IsUnbroken, possible_breaks, first_break}
use Rattle.range_check.specs.Gathered.{gathered}
use Rattle.range_check.specs.declared.refusal.RangeRefusal.{RangeRefusal}

-- the interval of a lane
abbrev pub span_at : List Span → ℕ → Span
span_at spans lane = slice_index_or spans lane (only (pos 0))

-- the expression of a lane
abbrev pub tree_at : List Tree → ℕ → Tree
tree_at trees lane = slice_index_or trees lane (literal (pos 0))

-- what a lane's expression of a part means
abbrev pub value_at : ProgramEntries → Part → Env → ℕ → ℤ
value_at p part n lane = ev (values_of p.params) n (tree_at (trees_in p part) lane)

-- ---- the order of breaks

-- break k is the first: it is there, and none before it is
pub record IsFirst (breaks : List (Option RangeRefusal)) (k : ℕ) (r : RangeRefusal) : Type 0 where
  pub inside : k < length breaks
  pub there : slice_index_or breaks k None ≡ Some r
  pub before : (j : ℕ) → j < k → slice_index_or breaks j None ≡ None

-- the first break is the first of the possible ones that is there, and there is none just where the
-- program has none
abbrev pub FirstIsFirst : Type 0
FirstIsFirst = (p : ProgramEntries)
    → MatchOption (first_break p) (IsUnbroken p) (λ r. (k : ℕ) × IsFirst (possible_breaks p) k r)

-- ---- what an accepted program keeps

-- each expression is safe on the bounds of its part
abbrev pub TreesAreSafe : Type 0
TreesAreSafe = (p : ProgramEntries) (part : Part)
    → IsAccepted p → All (IsSafe (values_of p.params) (bounds_in p part)) (trees_in p part)

-- and so may be evaluated under each environment inside them
abbrev pub TreesAreEvaluable : Type 0
TreesAreEvaluable = (p : ProgramEntries) (part : Part) (n : Env)
    → IsAccepted p → InBounds (bounds_in p part) n → All (IsEvaluable p n) (trees_in p part)

-- each contribution lies in its lane's interval, and that within i64
pub record IsContribution (p : ProgramEntries) (n : Env) (lane : ℕ) : Type 0 where
  pub inside : IsIn (span_at (contributed p) lane) (value_at p Contribute n lane)
  pub fits : FitsSigned w64 (value_at p Contribute n lane)

abbrev pub ContributionsFit : Type 0
ContributionsFit = (p : ProgramEntries) (n : Env) (lane : ℕ)
    → IsAccepted p → InBounds (bounds_in p Contribute) n → lane < length p.ranges
    → IsContribution p n lane

-- what these contributions come to lies in the aggregate's interval, and that within i64
pub record IsAggregate (p : ProgramEntries) (lane : ℕ) (xs : List ℤ) : Type 0 where
  pub inside : IsIn (span_at (aggregated p) lane) (gathered p.combine xs)
  pub fits : FitsSigned w64 (gathered p.combine xs)

abbrev pub AggregatesFit : Type 0
AggregatesFit = (p : ProgramEntries) (lane : ℕ) (xs : List ℤ)
    → IsAccepted p → lane < length p.ranges
    → All (IsIn (span_at (contributed p) lane)) xs → length xs ≤ p.limits.degree
    → IsAggregate p lane xs

-- a value of the part lies in its lane's range, and that within i64
pub record IsValue (p : ProgramEntries) (part : Part) (n : Env) (lane : ℕ) : Type 0 where
  pub inside : IsIn (span_at (lane_spans p.ranges) lane) (value_at p part n lane)
  pub fits : FitsSigned w64 (value_at p part n lane)

abbrev pub InitialValuesFit : Type 0
InitialValuesFit = (p : ProgramEntries) (n : Env) (lane : ℕ)
    → IsAccepted p → InBounds (bounds_in p Init) n → lane < length p.ranges
    → IsValue p Init n lane

abbrev pub AppliedValuesFit : Type 0
AppliedValuesFit = (p : ProgramEntries) (n : Env) (lane : ℕ)
    → IsAccepted p → InBounds (bounds_in p Apply) n → lane < length p.ranges
    → IsValue p Apply n lane
