-- What the evaluation of an expression rests on.
use Rattle.std.specs.Prelude.{◌≢◌, ◌<◌, ℤ, pos, List, length}
use Rattle.vertex_expr.specs.Meaning.{ev}
use Rattle.vertex_expr.specs.Span.{IsSmall}
use Rattle.vertex_expr.specs.Tree.{Tree, param, val, agg, old, plus, minus, times, over, least}
use Rattle.vertex_expr.specs.Tree.{greatest, clamp, choose}
use Rattle.vertex_expr.specs.declared.env.Env.{Env}

-- the params and the lanes that it names are there, no divisor is 0, and the values that it
-- computes are small
abbrev pub IsFit : List ℤ → Env → Tree → Type 0
IsFit ps n (param k) = k < length ps
IsFit ps n (val k) = k < length n.val
IsFit ps n (agg k) = k < length n.agg
IsFit ps n (old k) = k < length n.old
IsFit ps n (plus a b) = IsFit ps n a × IsFit ps n b × IsSmall (ev ps n (plus a b))
IsFit ps n (minus a b) = IsFit ps n a × IsFit ps n b × IsSmall (ev ps n (minus a b))
IsFit ps n (times a b) = IsFit ps n a × IsFit ps n b × IsSmall (ev ps n (times a b))
IsFit ps n (over a b) = IsFit ps n a × IsFit ps n b × (ev ps n b ≢ pos 0) × IsSmall (ev ps n a)
    × IsSmall (ev ps n b)
IsFit ps n (least a b) = IsFit ps n a × IsFit ps n b
IsFit ps n (greatest a b) = IsFit ps n a × IsFit ps n b
IsFit ps n (clamp x a b) = IsFit ps n x × IsFit ps n a × IsFit ps n b
IsFit ps n (choose c a b x y) = IsFit ps n a × IsFit ps n b × IsFit ps n x × IsFit ps n y
IsFit ps n _ = Unit {0}
