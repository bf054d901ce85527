-- What an expression means.
use Rattle.std.specs.Prelude.{ℤ, pos, ◌+ℤ◌, ◌-ℤ◌, ◌*ℤ◌, ◌&&◌, Bool, if◌then◌else◌, List}
use Rattle.std.specs.Prelude.{slice_index_or, int_lt, int_le}
use Rattle.std.specs.Int.{int_min, int_max}
use Rattle.vertex_expr.specs.Floor.{floor_div}
use Rattle.vertex_expr.specs.Tree.{Tree, literal, param, val, outdeg, weight, attr, id, agg, old}
use Rattle.vertex_expr.specs.Tree.{plus, minus, times, over, least, greatest, clamp, choose}
use Rattle.vertex_expr.specs.declared.env.Env.{Env}
use Rattle.vertex_expr.specs.declared.expr.Compare.{Compare}
use Rattle.vertex_expr.specs.declared.expr.Compare.TheVariants.{Less, AtMost, Equal}

-- whether the comparison holds
abbrev pub holds : Compare → ℤ → ℤ → Bool
holds Less a b = int_lt a b
holds AtMost a b = int_le a b
holds Equal a b = int_le a b && int_le b a

-- the value of an expression over whole numbers without bound, where the program's params are these
-- numbers
abbrev pub ev : List ℤ → Env → Tree → ℤ
ev ps n (literal x) = x
ev ps n (param k) = slice_index_or ps k (pos 0)
ev ps n (val k) = slice_index_or n.val k (pos 0)
ev ps n outdeg = pos n.outdeg
ev ps n weight = n.weight
ev ps n attr = n.attr
ev ps n id = pos n.id
ev ps n (agg k) = slice_index_or n.agg k (pos 0)
ev ps n (old k) = slice_index_or n.old k (pos 0)
ev ps n (plus a b) = ev ps n a +ℤ ev ps n b
ev ps n (minus a b) = ev ps n a -ℤ ev ps n b
ev ps n (times a b) = ev ps n a *ℤ ev ps n b
ev ps n (over a b) = floor_div (ev ps n a) (ev ps n b)
ev ps n (least a b) = int_min (ev ps n a) (ev ps n b)
ev ps n (greatest a b) = int_max (ev ps n a) (ev ps n b)
ev ps n (clamp x a b) = int_max (ev ps n a) (int_min (ev ps n x) (ev ps n b))
ev ps n (choose c a b x y) = if holds c (ev ps n a) (ev ps n b) then ev ps n x else ev ps n y
