-- The intervals of expressions.
use Rattle.std.specs.Prelude.{ℤ, pos, ◌+ℤ◌, ◌-ℤ◌, ◌*ℤ◌, List, slice_index_or, Option, unwrap_or}
use Rattle.vertex_expr.specs.Floor.{floor_div}
use Rattle.vertex_expr.specs.Span.{Span, only, AreIn, IsIn, IsInAny, hull, least_span}
use Rattle.vertex_expr.specs.Span.{greatest_span, joined}
use Rattle.vertex_expr.specs.Tree.{Tree, literal, param, val, outdeg, weight, attr, id, agg, old}
use Rattle.vertex_expr.specs.Tree.{plus, minus, times, over, least, greatest, clamp, choose}
use Rattle.vertex_expr.specs.declared.env.Env.{Env}

-- where the numbers of an environment lie; what an expression may not mention has no interval
pub record Bounds : Type 0 where
  pub val : List Span
  pub agg : List Span
  pub old : List Span
  pub outdeg : Option Span
  pub weight : Option Span
  pub attr : Span
  pub id : Span

-- the environment lies in the bounds
pub record InBounds (b : Bounds) (n : Env) : Type 0 where
  pub val : AreIn b.val n.val
  pub agg : AreIn b.agg n.agg
  pub old : AreIn b.old n.old
  pub outdeg : IsInAny b.outdeg (pos n.outdeg)
  pub weight : IsInAny b.weight n.weight
  pub attr : IsIn b.attr n.attr
  pub id : IsIn b.id (pos n.id)

-- the interval of an expression, from those of its operands
abbrev pub box : List ℤ → Bounds → Tree → Span
box ps b (literal x) = only x
box ps b (param k) = only (slice_index_or ps k (pos 0))
box ps b (val k) = slice_index_or b.val k (only (pos 0))
box ps b outdeg = unwrap_or b.outdeg (only (pos 0))
box ps b weight = unwrap_or b.weight (only (pos 0))
box ps b attr = b.attr
box ps b id = b.id
box ps b (agg k) = slice_index_or b.agg k (only (pos 0))
box ps b (old k) = slice_index_or b.old k (only (pos 0))
box ps b (plus x y) = let s = box ps b x in let t = box ps b y in record {
  low = s.low +ℤ t.low;
  high = s.high +ℤ t.high;
}
box ps b (minus x y) = let s = box ps b x in let t = box ps b y in record {
  low = s.low -ℤ t.high;
  high = s.high -ℤ t.low;
}
box ps b (times x y) =
    let s = box ps b x in
    let t = box ps b y in
    hull (s.low *ℤ t.low) (s.low *ℤ t.high) (s.high *ℤ t.low) (s.high *ℤ t.high)
box ps b (over x y) =
    let s = box ps b x in
    let t = box ps b y in
    hull (floor_div s.low t.low) (floor_div s.low t.high) (floor_div s.high t.low)
    (floor_div s.high t.high)
box ps b (least x y) = least_span (box ps b x) (box ps b y)
box ps b (greatest x y) = greatest_span (box ps b x) (box ps b y)
box ps b (clamp x y z) = greatest_span (box ps b y) (least_span (box ps b x) (box ps b z))
box ps b (choose c p q x y) = joined (box ps b x) (box ps b y)
