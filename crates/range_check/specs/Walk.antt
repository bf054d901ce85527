-- What a walk over the nodes of an expression gives.
use Rattle.std.specs.Prelude.{◌≡◌, ℕ, ◌+◌, List, map, Option, Some, None, Result, Ok, Err}
use Rattle.std.specs.List.{enumerate_from}
use Rattle.vertex_expr.specs.Box.{box}
use Rattle.vertex_expr.specs.ProgramBounds.{bounds_in}
use Rattle.vertex_expr.specs.Safe.{EachNode, IsKnown, break_at, postorder}
use Rattle.vertex_expr.specs.Span.{Span}
use Rattle.vertex_expr.specs.Tree.{Tree}
use Rattle.vertex_expr.specs.Writable.{IsWritable, values_of}
use Rattle.vertex_expr.specs.declared.expr.Part.{Part}
use Rattle.vertex_expr.specs.declared.program.ProgramEntries.{ProgramEntries}
use Rattle.range_check.specs.Breaks.{first_some, node_break}
use Rattle.range_check.specs.declared.refusal.RangeRefusal.{RangeRefusal}
use Rattle.range_check.specs.declared.refusal.RangeRefusal.TheVariants.{Wide}
use Rattle.range_check.specs.declared.walk.Walked.{Walked}
use Rattle.range_check.specs.declared.walk.WalkedTwo.{WalkedTwo}

-- what the expressions of the part may read is there: these are the intervals of the aggregates
-- that it may mention
pub record IsScope (p : ProgramEntries) (part : Part) (aggregates : List Span) : Type 0 where
  pub writable : IsWritable p
  pub agg : aggregates ≡ (bounds_in p part).agg

-- the interval of an expression that stands in the part
abbrev pub box_in : ProgramEntries → Part → Tree → Span
box_in p part t = box (values_of p.params) (bounds_in p part) t

-- its names are known there
abbrev pub IsKnownIn : ProgramEntries → Part → Tree → Type 0
IsKnownIn p part t = EachNode (IsKnown (values_of p.params) (bounds_in p part)) t

-- the first break of its nodes, which are numbered from `first` on
unfoldable pub first_in : ProgramEntries → Part → ℕ → Tree → Option RangeRefusal
first_in p part first t = first_some
    (map (λ n. node_break part n.0 n.1)
    (enumerate_from first (map (break_at (values_of p.params) (bounds_in p part)) (postorder t))))

-- the refusal, or else the interval and the number of the next node
abbrev pub walk_result : Option RangeRefusal → Span → ℕ → Result Walked RangeRefusal
walk_result None s n = Ok (record { span = s; next = n })
walk_result (Some r) s n = Err r

-- the same for two expressions
abbrev pub two_result : Option RangeRefusal → Span → Span → ℕ → Result WalkedTwo RangeRefusal
two_result None s t n = Ok (record { left = s; right = t; next = n })
two_result (Some r) s t n = Err r

-- the same for one node, which has no interval if it is too wide
abbrev pub node_result : Part → ℕ → Option Span → Result Walked RangeRefusal
node_result part node (Some s) = Ok (record { span = s; next = node + 1 })
node_result part node None = Err (Wide part node)
