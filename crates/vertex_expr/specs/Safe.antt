-- Which expressions are safe to evaluate.
use Rattle.std.specs.Prelude.{◌≡◌, ◌≢◌, ◌<◌, ℤ, pos, if◌then◌else◌, List, [], ◌∷◌, ◌++◌, length}
use Rattle.std.specs.Prelude.{map, Option, Some, None, IsSome}
use Rattle.std.specs.List.{flat_map}
use Rattle.vertex_expr.specs.Box.{Bounds, InBounds, box}
use Rattle.vertex_expr.specs.Meaning.{ev}
use Rattle.vertex_expr.specs.Span.{Span, IsIn, IsSmall, is_narrow, holds_zero}
use Rattle.vertex_expr.specs.Tree.{Tree, param, val, outdeg, weight, agg, old, plus, minus, times}
use Rattle.vertex_expr.specs.Tree.{over, least, greatest, clamp, choose}
use Rattle.vertex_expr.specs.Writable.{values_of}
use Rattle.vertex_expr.specs.declared.env.Env.{Env}
use Rattle.vertex_expr.specs.declared.program.ProgramEntries.{ProgramEntries}

-- it holds of each node
abbrev pub EachNode : (Tree → Type 0) → Tree → Type 0
EachNode P (plus x y) = EachNode P x × EachNode P y × P (plus x y)
EachNode P (minus x y) = EachNode P x × EachNode P y × P (minus x y)
EachNode P (times x y) = EachNode P x × EachNode P y × P (times x y)
EachNode P (over x y) = EachNode P x × EachNode P y × P (over x y)
EachNode P (least x y) = EachNode P x × EachNode P y × P (least x y)
EachNode P (greatest x y) = EachNode P x × EachNode P y × P (greatest x y)
EachNode P (clamp x y z) = EachNode P x × EachNode P y × EachNode P z × P (clamp x y z)
EachNode P (choose c p q x y) = EachNode P p × EachNode P q × EachNode P x × EachNode P y
    × P (choose c p q x y)
EachNode P leaf = P leaf

-- the nodes in their order: each one after its operands, the operands from left to right
abbrev pub postorder : Tree → List Tree
postorder (plus x y) = postorder x ++ postorder y ++ plus x y ∷ []
postorder (minus x y) = postorder x ++ postorder y ++ minus x y ∷ []
postorder (times x y) = postorder x ++ postorder y ++ times x y ∷ []
postorder (over x y) = postorder x ++ postorder y ++ over x y ∷ []
postorder (least x y) = postorder x ++ postorder y ++ least x y ∷ []
postorder (greatest x y) = postorder x ++ postorder y ++ greatest x y ∷ []
postorder (clamp x y z) = postorder x ++ postorder y ++ postorder z ++ clamp x y z ∷ []
postorder (choose c p q x y) = postorder p ++ postorder q ++ postorder x ++ postorder y
    ++ choose c p q x y ∷ []
postorder leaf = leaf ∷ []

-- the nodes of a part, numbered by their places: those of each lane's expression in turn
abbrev pub numbered : List Tree → List Tree
numbered trees = flat_map postorder trees

-- why a node isn't safe: its divisor's interval holds 0, or its own interval isn't within -2^120 to
-- 2^120
pub data Break : Type 0 where
  zero_divisor : Break
  too_wide : Break

abbrev pub width_break : Span → Option Break
width_break s = if is_narrow s then None else Some too_wide

-- the first cause for which the node isn't safe
abbrev pub break_at : List ℤ → Bounds → Tree → Option Break
break_at ps b (over x y) = if holds_zero (box ps b y) then Some zero_divisor else width_break
    (box ps b (over x y))
break_at ps b t = width_break (box ps b t)

-- for each node of a part, in its place, the break there
abbrev pub breaks : List ℤ → Bounds → List Tree → List (Option Break)
breaks ps b trees = map (break_at ps b) (numbered trees)

-- the param is there, and what the environment gives has an interval
abbrev pub IsKnown : List ℤ → Bounds → Tree → Type 0
IsKnown ps b (param k) = k < length ps
IsKnown ps b (val k) = k < length b.val
IsKnown ps b (agg k) = k < length b.agg
IsKnown ps b (old k) = k < length b.old
IsKnown ps b outdeg = IsSome b.outdeg
IsKnown ps b weight = IsSome b.weight
IsKnown ps b _ = Unit {0}

-- a node that is known and has no break
pub record IsSafeNode (ps : List ℤ) (b : Bounds) (t : Tree) : Type 0 where
  pub known : IsKnown ps b t
  pub unbroken : break_at ps b t ≡ None

-- every node is safe
abbrev pub IsSafe : List ℤ → Bounds → Tree → Type 0
IsSafe ps b t = EachNode (IsSafeNode ps b) t

-- a divisor isn't 0
abbrev pub Divides : List ℤ → Env → Tree → Type 0
Divides ps n (over x y) = ev ps n y ≢ pos 0
Divides ps n _ = Unit {0}

-- a node's value lies in its interval and within -2^120 to 2^120, and if it is a quotient, its
-- divisor isn't 0
pub record IsSound (ps : List ℤ) (b : Bounds) (n : Env) (t : Tree) : Type 0 where
  pub inside : IsIn (box ps b t) (ev ps n t)
  pub small : IsSmall (ev ps n t)
  pub divides : Divides ps n t

-- the expression is safe on a box of intervals that holds the environment
pub record IsEvaluable (p : ProgramEntries) (n : Env) (t : Tree) : Type 0 where
  pub bounds : Bounds
  pub safe : IsSafe (values_of p.params) bounds t
  pub inside : InBounds bounds n
