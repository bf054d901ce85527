-- A node is safe just where it is known and has no break; so is an expression.
use Rattle.std.proofs.Common.{◌≡◌, ◌↔◌, ℤ, List, None}
use Rattle.std.specs.List.{All}
use Rattle.vertex_expr.specs.Box.{Bounds}
use Rattle.vertex_expr.specs.Safe.{EachNode, postorder, break_at, IsKnown, IsSafe, IsSafeNode}
use Rattle.vertex_expr.specs.Tree.{Tree}
use Rattle.vertex_expr.proofs.NodeLemmas.{each_with, each_then, all_from_each, each_from_all}

has_no_break : List ℤ → Bounds → Tree → Type 0
has_no_break ps b s = break_at ps b s ≡ None

safe_node : (ps : List ℤ) (b : Bounds) (s : Tree) → IsKnown ps b s → has_no_break ps b s
    → IsSafeNode ps b s
unfolding has_no_break
safe_node ps b s k u = record { known = k; unbroken = u }

node_unbroken : (ps : List ℤ) (b : Bounds) (s : Tree) → IsSafeNode ps b s → has_no_break ps b s
unfolding has_no_break
node_unbroken ps b s h = h.unbroken

pub safe_unbroken : (ps : List ℤ) (b : Bounds) (t : Tree) → EachNode (IsKnown ps b) t
    → (IsSafe ps b t ↔ All (λ s. break_at ps b s ≡ None) (postorder t))
unfolding has_no_break
safe_unbroken ps b t k = (
  λ s. all_from_each (has_no_break ps b) t
      (each_then (IsSafeNode ps b) (has_no_break ps b) (node_unbroken ps b) t s),
  λ a. each_with (IsKnown ps b) (has_no_break ps b) (IsSafeNode ps b) (safe_node ps b) t k
      (each_from_all (has_no_break ps b) t a),
)
