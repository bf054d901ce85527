-- The edge of a pair of vertices.
use Rattle.std.specs.Prelude.{ℕ, ℤ, Option, Some, None}
use Rattle.std.specs.FinMap as finite
use Rattle.bolt_base.specs.Graph.{Graph}
use Rattle.bolt_base.specs.declared.edge.Edge.{Edge}

-- the edge from u to v of that weight, if there is a weight
abbrev pub with_weight : ℕ → ℕ → Option ℤ → Option Edge
with_weight u v None = None
with_weight u v (Some w) = Some (record { src = u; dst = v; weight = w })

-- the edge from u to v, where the graph has one
abbrev pub edge_at : Graph → ℕ → ℕ → Option Edge
edge_at g u v = with_weight u v (finite.get g.weights (u, v))
