-- A safe expression fits an environment inside its bounds.
use Rattle.std.proofs.Common.{ℕ, ℤ, ◌<◌, ◌≤◌, List, arith}
use Rattle.vertex_expr.specs.declared.env.Env.{Env}
use Rattle.vertex_expr.specs.Box.{Bounds, InBounds}
use Rattle.vertex_expr.specs.Fit.{IsFit}
use Rattle.vertex_expr.specs.Safe.{EachNode, IsSafe, IsSound}
use Rattle.vertex_expr.specs.Tree.{Tree, literal, param, val, outdeg, weight, attr, id, agg, old}
use Rattle.vertex_expr.specs.Tree.{plus, minus, times, over, least, greatest, clamp, choose}
use Rattle.vertex_expr.proofs.Sound.{small_at}

below_at_most : (k m n : ℕ) → k < m → m ≤ n → k < n
below_at_most k m n l h = omega arith

pub safe_fits : (ps : List ℤ) (b : Bounds) (n : Env) → InBounds b n → (t : Tree) → IsSafe ps b t
    → EachNode (IsSound ps b n) t → IsFit ps n t
safe_fits ps b n h (literal x) s g = tt
safe_fits ps b n h (param k) s g = s.known
safe_fits ps b n h (val k) s g = below_at_most _ _ _ s.known h.val.long
safe_fits ps b n h outdeg s g = tt
safe_fits ps b n h weight s g = tt
safe_fits ps b n h attr s g = tt
safe_fits ps b n h id s g = tt
safe_fits ps b n h (agg k) s g = below_at_most _ _ _ s.known h.agg.long
safe_fits ps b n h (old k) s g = below_at_most _ _ _ s.known h.old.long
safe_fits ps b n h (plus x y) s g = (
  safe_fits ps b n h x s.0 g.0,
  safe_fits ps b n h y s.1 g.1,
  g.2.small,
)
safe_fits ps b n h (minus x y) s g =
    (safe_fits ps b n h x s.0 g.0, safe_fits ps b n h y s.1 g.1, g.2.small)
safe_fits ps b n h (times x y) s g =
    (safe_fits ps b n h x s.0 g.0, safe_fits ps b n h y s.1 g.1, g.2.small)
safe_fits ps b n h (over x y) s g = (
  safe_fits ps b n h x s.0 g.0,
  safe_fits ps b n h y s.1 g.1,
  g.2.divides,
  small_at ps b n x g.0,
  small_at ps b n y g.1,
)
safe_fits ps b n h (least x y) s g = (safe_fits ps b n h x s.0 g.0, safe_fits ps b n h y s.1 g.1)
safe_fits ps b n h (greatest x y) s g = (safe_fits ps b n h x s.0 g.0, safe_fits ps b n h y s.1 g.1)
safe_fits ps b n h (clamp x y z) s g = (
  safe_fits ps b n h x s.0 g.0,
  safe_fits ps b n h y s.1 g.1,
  safe_fits ps b n h
      z s.2 g.2,
)
safe_fits ps b n h (choose c u v x y) s g = (
  safe_fits ps b n h u s.0 g.0,
  safe_fits ps b n h v s.1 g.1,
  safe_fits ps b n h x s.2 g.2,
  safe_fits ps b n h y s.3
      g.3,
)
