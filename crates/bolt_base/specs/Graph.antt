-- A graph: an attribute for each vertex, and a weight for each pair of ends that has an edge.
use Rattle.std.specs.Prelude.{ℕ, ℤ, ◌+◌, ◌*◌, ◌<◌, ◌≤◌, ◌≤ℤ◌, min, ◌==◌, List, map, filter, length}
use Rattle.std.specs.Ordering.{nat_cmp, ordering_then}
use Rattle.std.specs.List.{All}
use Rattle.std.specs.declared.cmp.Ordering.{Ordering}
use Rattle.std.specs.FinMap as finite
use Rattle.bolt_base.specs.declared.edge.Edge.{Edge}
use Rattle.bolt_base.specs.declared.limits.Limits.{Limits}

-- the ends of an edge, its source first
abbrev pub Pair : Type 0
Pair = ℕ × ℕ

-- pairs are ordered by source and then by destination
abbrev pub pair_cmp : Pair → Pair → Ordering
pair_cmp p q = ordering_then (nat_cmp p.0 q.0) (nat_cmp p.1 q.1)

abbrev pub Weights : Type 0
Weights = finite.FinMap pair_cmp ℤ

-- two graphs are the same where they have the same attributes and the same edges
pub record Graph : Type 0 where
  pub attrs : List ℤ
  pub weights : Weights

-- the number of vertices
abbrev pub vertices : Graph → ℕ
vertices g = length g.attrs

abbrev pub edge : Pair × ℤ → Edge
edge e = record { src = e.0.0; dst = e.0.1; weight = e.1 }

-- all edges, by source and then by destination
abbrev pub edges : Graph → List Edge
edges g = map edge (finite.entries g.weights)

-- the edges out of a vertex, and those into it
abbrev pub out_edges : Graph → ℕ → List Edge
out_edges g u = filter (λ e. e.src == u) (edges g)

abbrev pub in_edges : Graph → ℕ → List Edge
in_edges g v = filter (λ e. e.dst == v) (edges g)

abbrev pub outdeg : Graph → ℕ → ℕ
outdeg g u = length (out_edges g u)

abbrev pub indeg : Graph → ℕ → ℕ
indeg g v = length (in_edges g v)

-- a number from lo to hi
abbrev pub IsBetween : ℤ → ℤ → ℤ → Type 0
IsBetween lo hi x = (lo ≤ℤ x) × (x ≤ℤ hi)

-- the graph is within the limits, and each edge ends at vertices that are there
pub record IsGood (l : Limits) (g : Graph) : Type 0 where
  pub few_vertices : length g.attrs ≤ l.vertices
  pub few_edges : length (edges g) ≤ l.edges
  pub attrs : All (λ a. IsBetween l.attr_lo l.attr_hi a) g.attrs
  pub weights : All (λ e. IsBetween l.weight_lo l.weight_hi e.weight) (edges g)
  pub ends : All (λ e. (e.src < length g.attrs) × (e.dst < length g.attrs)) (edges g)
  pub out_degrees : (u : ℕ) → outdeg g u ≤ l.degree
  pub in_degrees : (v : ℕ) → indeg g v ≤ l.degree

-- the number of vertices to which a graph of n vertices may grow
abbrev pub room : Limits → ℕ → ℕ
room l n = min l.vertices (2 * n + 1024)

-- the limits for a graph that began with n vertices
abbrev pub within : Limits → ℕ → Limits
within l n = record l { vertices = room l n }
