-- The first breaks of the lanes of a part.
use Rattle.std.specs.Prelude.{ℕ, List, map, Option}
use Rattle.std.specs.List.{enumerate_from, zip}
use Rattle.vertex_expr.specs.ProgramBounds.{bounds_in, combined}
use Rattle.vertex_expr.specs.Safe.{breaks}
use Rattle.vertex_expr.specs.Span.{Span}
use Rattle.vertex_expr.specs.Tree.{Tree}
use Rattle.vertex_expr.specs.Writable.{values_of}
use Rattle.vertex_expr.specs.declared.expr.Part.{Part}
use Rattle.vertex_expr.specs.declared.program.Combine.{Combine}
use Rattle.vertex_expr.specs.declared.program.LaneRange.{LaneRange}
use Rattle.vertex_expr.specs.declared.program.ProgramEntries.{ProgramEntries}
use Rattle.range_check.specs.Breaks.{first_some, node_break, value_break, sum_break}
use Rattle.range_check.specs.declared.refusal.RangeRefusal.{RangeRefusal}

-- the first break of the nodes of some expressions of the part, numbered from `node` on
unfoldable pub first_node : ProgramEntries → Part → ℕ → List Tree → Option RangeRefusal
first_node p part node trees = first_some
    (map (λ n. node_break part n.0 n.1)
    (enumerate_from node (breaks (values_of p.params) (bounds_in p part) trees)))

-- the first of these intervals that isn't within its range, the lanes counted from `lane` on
unfoldable pub first_value : Part → ℕ → List Span → List LaneRange → Option RangeRefusal
first_value part lane spans ranges = first_some
    (map (λ n. value_break part n.0 n.1.0 n.1.1) (enumerate_from lane (zip spans ranges)))

-- the first of these lanes of contributions that isn't within i64, or whose aggregate isn't
unfoldable pub first_sum : ℕ → List Span → List Span → Option RangeRefusal
first_sum lane contributions aggregates = first_some
    (map (λ n. sum_break n.0 n.1.0 n.1.1) (enumerate_from lane (zip contributions aggregates)))

-- the aggregates of these contributions
abbrev pub aggregates_of : Combine → ℕ → List Span → List Span
aggregates_of c degree contributions = map (combined c degree) contributions
