-- What edits without a cause find in a graph.
use Rattle.std.specs.Prelude.{◌≡◌, ℕ, ℤ, ◌<◌, ◌≤◌, length, Some, None}
use Rattle.std.specs.FinMap as finite
use Rattle.bolt_base.specs.Edits.{with_attr}
use Rattle.bolt_base.specs.Graph.{Graph, IsBetween, edges, outdeg, indeg}
use Rattle.bolt_base.specs.declared.edge.Edge.{Edge}
use Rattle.bolt_base.specs.declared.limits.Limits.{Limits}

-- both ends are there, the pair has no edge, and there is room for one more
pub record IsGoodAddition (l : Limits) (g : Graph) (e : Edge) : Type 0 where
  pub src : e.src < length g.attrs
  pub dst : e.dst < length g.attrs
  pub weight : IsBetween l.weight_lo l.weight_hi e.weight
  pub absent : finite.get g.weights (e.src, e.dst) ≡ None
  pub out_degree : outdeg g e.src < l.degree
  pub in_degree : indeg g e.dst < l.degree
  pub room : length (edges g) < l.edges

-- both ends are there, and the pair has an edge
pub record IsGoodCut (g : Graph) (s d : ℕ) : Type 0 where
  pub src : s < length g.attrs
  pub dst : d < length g.attrs
  pub weight : ℤ
  pub there : finite.get g.weights (s, d) ≡ Some weight

-- the vertex is there or the next one, and there is room for it
pub record IsGoodSetting (l : Limits) (g : Graph) (v : ℕ) (a : ℤ) : Type 0 where
  pub few : length (with_attr g.attrs v a) ≤ l.vertices
  pub known : v ≤ length g.attrs
  pub attr : IsBetween l.attr_lo l.attr_hi a
