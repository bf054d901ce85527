-- Expressions as trees.
use Rattle.std.specs.Prelude.{ℕ, ℤ, ◌+◌, Bool, true, false, max}
use Rattle.vertex_expr.specs.declared.expr.Compare.{Compare}

-- an expression
pub data Tree : Type 0 where
  literal : ℤ → Tree
  param : ℕ → Tree
  val : ℕ → Tree
  outdeg : Tree
  weight : Tree
  attr : Tree
  id : Tree
  agg : ℕ → Tree
  old : ℕ → Tree
  plus : Tree → Tree → Tree
  minus : Tree → Tree → Tree
  times : Tree → Tree → Tree
  over : Tree → Tree → Tree
  least : Tree → Tree → Tree
  greatest : Tree → Tree → Tree
  clamp : Tree → Tree → Tree → Tree
  choose : Compare → Tree → Tree → Tree → Tree → Tree

-- how many nodes it has; a comparison makes none
abbrev pub nodes : Tree → ℕ
nodes (plus a b) = nodes a + nodes b + 1
nodes (minus a b) = nodes a + nodes b + 1
nodes (times a b) = nodes a + nodes b + 1
nodes (over a b) = nodes a + nodes b + 1
nodes (least a b) = nodes a + nodes b + 1
nodes (greatest a b) = nodes a + nodes b + 1
nodes (clamp x a b) = nodes x + nodes a + nodes b + 1
nodes (choose c a b x y) = nodes a + nodes b + nodes x + nodes y + 1
nodes _ = 1

-- how deep it is; a leaf has depth 1
abbrev pub depth : Tree → ℕ
depth (plus a b) = max (depth a) (depth b) + 1
depth (minus a b) = max (depth a) (depth b) + 1
depth (times a b) = max (depth a) (depth b) + 1
depth (over a b) = max (depth a) (depth b) + 1
depth (least a b) = max (depth a) (depth b) + 1
depth (greatest a b) = max (depth a) (depth b) + 1
depth (clamp x a b) = max (depth x) (max (depth a) (depth b)) + 1
depth (choose c a b x y) = max (max (depth a) (depth b)) (max (depth x) (depth y)) + 1
depth _ = 1

-- whether it has operands; a leaf has none
abbrev pub has_operands : Tree → Bool
has_operands (plus a b) = true
has_operands (minus a b) = true
has_operands (times a b) = true
has_operands (over a b) = true
has_operands (least a b) = true
has_operands (greatest a b) = true
has_operands (clamp x a b) = true
has_operands (choose c a b x y) = true
has_operands _ = false

-- how tightly an expression holds together, from loosest to tightest
pub data Level : Type 0 where
  sums : Level
  products : Level
  operands : Level

abbrev pub level : Tree → Level
level (plus a b) = sums
level (minus a b) = sums
level (times a b) = products
level (over a b) = products
level _ = operands
