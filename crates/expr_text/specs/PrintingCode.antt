use Rattle.std.specs.Prelude.{ℕ, Bool, true, false, List, [], ◌<◌}
use Rattle.vertex_expr.specs.Tree.{Tree, param, plus, minus, times, over, least, greatest, clamp}
use Rattle.vertex_expr.specs.Tree.{choose, Level, sums, products, operands}
use Rattle.expr_text.specs.declared.printing.Level.{Level as CodeLevel}
use Rattle.expr_text.specs.declared.printing.Level.TheVariants.{Sums, Products, Operands}

abbrev pub level_seen : CodeLevel → Level
level_seen Sums = sums
level_seen Products = products
level_seen Operands = operands

abbrev pub if_marked : Bool → List ℕ → List ℕ
if_marked true x = x
if_marked false x = []

-- each param of the tree has a name
abbrev pub AreBelow : ℕ → Tree → Type 0
AreBelow n (param k) = k < n
AreBelow n (plus a b) = AreBelow n a × AreBelow n b
AreBelow n (minus a b) = AreBelow n a × AreBelow n b
AreBelow n (times a b) = AreBelow n a × AreBelow n b
AreBelow n (over a b) = AreBelow n a × AreBelow n b
AreBelow n (least a b) = AreBelow n a × AreBelow n b
AreBelow n (greatest a b) = AreBelow n a × AreBelow n b
AreBelow n (clamp x a b) = AreBelow n x × AreBelow n a × AreBelow n b
AreBelow n (choose c a b x y) = AreBelow n a × AreBelow n b × AreBelow n x × AreBelow n y
AreBelow n _ = Unit {0}
