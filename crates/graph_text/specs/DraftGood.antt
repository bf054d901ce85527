-- Drafts within limits.
use Rattle.std.specs.Prelude.{◌≡◌, ℕ, ℤ, ◌<◌, ◌≤◌, length, false, Some}
use Rattle.std.specs.List.{All}
use Rattle.bolt_base.specs.declared.limits.Limits.{Limits}
use Rattle.bolt_base.specs.Graph.{IsBetween, edges, outdeg, indeg}
use Rattle.graph_text.specs.GraphText.{Draft, bound}
use Rattle.graph_text.specs.EdgeIndex.{edges_alone}

-- the lines of a draft keep to the limits, and what they name is below the number of vertices
pub record IsSound (l : Limits) (d : Draft) : Type 0 where
  pub fresh : d.begun ≡ false → d.named ≡ 0
  pub few_vertices : bound l d ≤ l.vertices
  pub named : d.named ≤ bound l d
  pub attrs : (v : ℕ) (a : ℤ) → d.attr v ≡ Some a → IsBetween l.attr_lo l.attr_hi a
  pub few_edges : length (edges (edges_alone d.weights)) ≤ l.edges
  pub weights : All (λ e. IsBetween l.weight_lo l.weight_hi e.weight)
      (edges (edges_alone d.weights))
  pub ends : All (λ e. (e.src < d.named) × (e.dst < d.named)) (edges (edges_alone d.weights))
  pub out_degrees : (u : ℕ) → outdeg (edges_alone d.weights) u ≤ l.degree
  pub in_degrees : (v : ℕ) → indeg (edges_alone d.weights) v ≤ l.degree

-- lines more that aren't bad keep a draft within the limits
abbrev pub Grows : Limits → Draft → Draft → Type 0
Grows l old new = IsSound l old → IsSound l new
