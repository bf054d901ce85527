-- The leaves that are asked for.
use Rattle.std.specs.Prelude.{Bool}
use Rattle.vertex_expr.specs.Tree.{Tree}
use Rattle.vertex_expr.specs.Mentions.{is_outdeg, is_weight, is_attr}
use Rattle.vertex_expr.specs.declared.mentions.Leaf.{Leaf}
use Rattle.vertex_expr.specs.declared.mentions.Leaf.TheVariants.{Outdeg, Weight, Attr}

abbrev pub is_leaf : Leaf → Tree → Bool
is_leaf Outdeg = is_outdeg
is_leaf Weight = is_weight
is_leaf Attr = is_attr
