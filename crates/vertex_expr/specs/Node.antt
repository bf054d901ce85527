-- The tree that a node stands for.
use Rattle.vertex_expr.specs.declared.expr.Expr.{Expr}
use Rattle.vertex_expr.specs.declared.expr.Expr.TheVariants.{Literal, Param, Val, Outdeg, Weight}
use Rattle.vertex_expr.specs.declared.expr.Expr.TheVariants.{Attr, Id, Agg, Old, Plus, Minus, Times}
use Rattle.vertex_expr.specs.declared.expr.Expr.TheVariants.{Over, Min, Max, Clamp, If}
use Rattle.vertex_expr.specs.Tree.{Tree, literal, param, val, outdeg, weight, attr, id, agg, old}
use Rattle.vertex_expr.specs.Tree.{plus, minus, times, over, least, greatest, clamp, choose}

abbrev pub tree_of : Expr → Tree
tree_of (Literal x) = literal x
tree_of (Param k) = param k
tree_of (Val k) = val k
tree_of Outdeg = outdeg
tree_of Weight = weight
tree_of Attr = attr
tree_of Id = id
tree_of (Agg k) = agg k
tree_of (Old k) = old k
tree_of (Plus a b) = plus a b
tree_of (Minus a b) = minus a b
tree_of (Times a b) = times a b
tree_of (Over a b) = over a b
tree_of (Min a b) = least a b
tree_of (Max a b) = greatest a b
tree_of (Clamp x a b) = clamp x a b
tree_of (If c a b x y) = choose c a b x y
