-- What an expression mentions.
use Rattle.std.specs.Prelude.{◌≡◌, ◌||◌, Bool, true, false}
use Rattle.vertex_expr.specs.Tree.{Tree, outdeg, weight, attr, plus, minus, times, over, least}
use Rattle.vertex_expr.specs.Tree.{greatest, clamp, choose}
use Rattle.vertex_expr.specs.declared.env.Env.{Env}

-- one of its leaves passes
abbrev pub any_leaf : (Tree → Bool) → Tree → Bool
any_leaf p (plus a b) = any_leaf p a || any_leaf p b
any_leaf p (minus a b) = any_leaf p a || any_leaf p b
any_leaf p (times a b) = any_leaf p a || any_leaf p b
any_leaf p (over a b) = any_leaf p a || any_leaf p b
any_leaf p (least a b) = any_leaf p a || any_leaf p b
any_leaf p (greatest a b) = any_leaf p a || any_leaf p b
any_leaf p (clamp x a b) = any_leaf p x || any_leaf p a || any_leaf p b
any_leaf p (choose c a b x y) = any_leaf p a || any_leaf p b || any_leaf p x || any_leaf p y
any_leaf p leaf = p leaf

abbrev pub is_outdeg : Tree → Bool
is_outdeg outdeg = true
is_outdeg _ = false

abbrev pub is_weight : Tree → Bool
is_weight weight = true
is_weight _ = false

abbrev pub is_attr : Tree → Bool
is_attr attr = true
is_attr _ = false

-- whether `outdeg`, `weight` or `attr` stands somewhere in it
abbrev pub mentions_outdeg : Tree → Bool
mentions_outdeg t = any_leaf is_outdeg t

abbrev pub mentions_weight : Tree → Bool
mentions_weight t = any_leaf is_weight t

abbrev pub mentions_attr : Tree → Bool
mentions_attr t = any_leaf is_attr t

-- two environments differ at most in an out-degree, a weight or an attribute that the expression
-- doesn't mention
pub record AgreeFor (t : Tree) (n m : Env) : Type 0 where
  pub val : n.val ≡ m.val
  pub agg : n.agg ≡ m.agg
  pub old : n.old ≡ m.old
  pub id : n.id ≡ m.id
  pub outdeg : mentions_outdeg t ≡ true → n.outdeg ≡ m.outdeg
  pub weight : mentions_weight t ≡ true → n.weight ≡ m.weight
  pub attr : mentions_attr t ≡ true → n.attr ≡ m.attr
