-- What an expression doesn't mention doesn't change its meaning.
use Rattle.std.proofs.Common.{◌≡◌, ℤ, pos, ◌+ℤ◌, ◌-ℤ◌, ◌*ℤ◌, Bool, true, false, ◌||◌, if◌then◌else◌}
use Rattle.std.proofs.Common.{List, slice_index_or, refl, ap}
use Rattle.std.specs.Int.{int_min, int_max}
use Rattle.vertex_expr.specs.declared.env.Env.{Env}
use Rattle.vertex_expr.specs.Floor.{floor_div}
use Rattle.vertex_expr.specs.Meaning.{ev, holds}
use Rattle.vertex_expr.specs.Mentions.{AgreeFor, any_leaf, is_outdeg, is_weight, is_attr}
use Rattle.vertex_expr.specs.Tree.{Tree, literal, param, val, outdeg, weight, attr, id, agg, old}
use Rattle.vertex_expr.specs.Tree.{plus, minus, times, over, least, greatest, clamp, choose}

or_left : (a b : Bool) → a ≡ true → (a || b) ≡ true
or_left true b e = refl
or_left false b e = absurd (cc e)

or_right : (a b : Bool) → b ≡ true → (a || b) ≡ true
or_right true b e = refl
or_right false b e = e

-- what agrees for an expression agrees for a part of it
agree_for_part : (t s : Tree) (n m : Env) →
    ((p : Tree → Bool) → any_leaf p s ≡ true → any_leaf p t ≡ true) → AgreeFor t n m
    → AgreeFor s n m
agree_for_part t s n m up a = record {
  val = a.val;
  agg = a.agg;
  old = a.old;
  id = a.id;
  outdeg = λ e. a.outdeg (up is_outdeg e);
  weight = λ e. a.weight (up is_weight e);
  attr = λ e. a.attr (up is_attr e);
}

pub same_meaning : (ps : List ℤ) (n m : Env) (t : Tree) → AgreeFor t n m → ev ps n t ≡ ev ps m t
same_meaning ps n m (literal x) a = refl
same_meaning ps n m (param k) a = refl
same_meaning ps n m (val k) a = ap (λ xs. slice_index_or xs k (pos 0)) a.val
same_meaning ps n m outdeg a = ap pos (a.outdeg refl)
same_meaning ps n m weight a = a.weight refl
same_meaning ps n m attr a = a.attr refl
same_meaning ps n m id a = ap pos a.id
same_meaning ps n m (agg k) a = ap (λ xs. slice_index_or xs k (pos 0)) a.agg
same_meaning ps n m (old k) a = ap (λ xs. slice_index_or xs k (pos 0)) a.old
same_meaning ps n m (plus x y) a =
    let p = same_meaning ps n m x (agree_for_part (plus x y) x n m (λ f e. or_left _ _ e) a) in
    let q = same_meaning ps n m y (agree_for_part (plus x y) y n m (λ f e. or_right _ _ e) a) in
    λ i. p i +ℤ q i
same_meaning ps n m (minus x y) a =
    let p = same_meaning ps n m x (agree_for_part (minus x y) x n m (λ f e. or_left _ _ e) a) in
    let q = same_meaning ps n m y (agree_for_part (minus x y) y n m (λ f e. or_right _ _ e) a) in
    λ i. p i -ℤ q i
same_meaning ps n m (times x y) a =
    let p = same_meaning ps n m x (agree_for_part (times x y) x n m (λ f e. or_left _ _ e) a) in
    let q = same_meaning ps n m y (agree_for_part (times x y) y n m (λ f e. or_right _ _ e) a) in
    λ i. p i *ℤ q i
same_meaning ps n m (over x y) a =
    let p = same_meaning ps n m x (agree_for_part (over x y) x n m (λ f e. or_left _ _ e) a) in
    let q = same_meaning ps n m y (agree_for_part (over x y) y n m (λ f e. or_right _ _ e) a) in
    λ i. floor_div (p i) (q i)
same_meaning ps n m (least x y) a =
    let p = same_meaning ps n m x (agree_for_part (least x y) x n m (λ f e. or_left _ _ e) a) in
    let q = same_meaning ps n m y (agree_for_part (least x y) y n m (λ f e. or_right _ _ e) a) in
    λ i. int_min (p i) (q i)
same_meaning ps n m (greatest x y) a =
    let p = same_meaning ps n m x (agree_for_part (greatest x y) x n m (λ f e. or_left _ _ e) a) in
    let q = same_meaning ps n m y (agree_for_part (greatest x y) y n m (λ f e. or_right _ _ e) a) in
    λ i. int_max (p i) (q i)
same_meaning ps n m (clamp x y z) a =
    let p = same_meaning ps n m x (agree_for_part (clamp x y z) x n m
    (λ f e. or_left _ _ (or_left _ _ e)) a) in
    let q = same_meaning ps n m y (agree_for_part (clamp x y z) y n m
    (λ f e. or_left _ _ (or_right _ _ e)) a) in
    let r = same_meaning ps n m z (agree_for_part (clamp x y z) z n m (λ f e. or_right _ _ e) a) in
    λ i. int_max (q i) (int_min (p i) (r i))
same_meaning ps n m (choose c u v x y) a =
    let o = same_meaning ps n m u (agree_for_part (choose c u v x y) u n m
    (λ f e. or_left _ _ (or_left _ _ (or_left _ _ e))) a) in
    let p = same_meaning ps n m v (agree_for_part (choose c u v x y) v n m
    (λ f e. or_left _ _ (or_left _ _ (or_right _ _ e))) a) in
    let q = same_meaning ps n m x (agree_for_part (choose c u v x y) x n m
    (λ f e. or_left _ _ (or_right _ _ e)) a) in
    let r = same_meaning ps n m y (agree_for_part (choose c u v x y) y n m (λ f e. or_right _ _ e)
    a) in
    λ i. if holds c (o i) (p i) then q i else r i
