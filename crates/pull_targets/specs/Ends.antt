-- Where edges end that changed, or that go out of some vertices.
use Rattle.std.specs.Prelude.{ℕ, ◌<◌, ◌==◌, Bool, ◌||◌, ◌&&◌, List, filter}
use Rattle.std.specs.List.{All, list_any, range_with_len}
use Rattle.bolt_base.specs.Graph.{Graph, edges, vertices}
use Rattle.bolt_base.specs.declared.edge.Edge.{Edge}

-- one of these edges ends at the vertex
abbrev pub ends_at : List Edge → ℕ → Bool
ends_at es v = list_any (λ e. e.dst == v) es

-- the edge goes out of one of these vertices
abbrev pub goes_out : List ℕ → Edge → Bool
goes_out sources e = list_any (λ u. e.src == u) sources

-- a removed or an added edge ends at the vertex, or an edge of the graph out of one of the sources
abbrev pub is_end : Graph → List Edge → List Edge → List ℕ → ℕ → Bool
is_end h removed added sources v =
    ends_at removed v || ends_at added v
    || list_any (λ e. (e.dst == v) && goes_out sources e) (edges h)

-- these vertices, rising
abbrev pub ends : Graph → List Edge → List Edge → List ℕ → List ℕ
ends h removed added sources =
    filter (is_end h removed added sources) (range_with_len 0 (vertices h))

-- the sources are vertices of the graph, and so are the ends of all these edges
pub record AreThere (h : Graph) (gone come : List Edge) (us : List ℕ) : Type 0 where
  pub removed : All (λ e. e.dst < vertices h) gone
  pub added : All (λ e. e.dst < vertices h) come
  pub sources : All (λ u. u < vertices h) us
  pub edges : All (λ e. e.dst < vertices h) (edges h)
