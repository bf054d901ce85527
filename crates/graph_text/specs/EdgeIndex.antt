-- How the edges of a graph that is being read are found by their ends, and counted.
use Rattle.std.specs.Prelude.{◌≡◌, ℕ, zero, suc, ◌==◌, Bool, false, ◌||◌, if◌then◌else◌, List, []}
use Rattle.std.specs.Prelude.{◌∷◌, map, take, filter, length, is_some, slice_index_or}
use Rattle.std.specs.List.{list_any}
use Rattle.std.specs.Ordering.{nat_cmp}
use Rattle.std.specs.BTreeSet.{contains}
use Rattle.std.specs.FinMap as finite
use Rattle.std.specs.FinMap.{find}
use Rattle.bolt_base.specs.declared.edge.Edge.{Edge}
use Rattle.bolt_base.specs.Graph.{Graph, Weights, pair_cmp}
use Rattle.bolt_base.specs.Plain.{AreApart, entry}
use Rattle.graph_text.specs.declared.successors.Successors.{Successors}

abbrev pub one_if : Bool → ℕ
one_if b = if b then 1 else 0

-- the weights of a list of edges
abbrev pub weights_of : List Edge → Weights
weights_of es = finite.from_entries (map entry es)

-- a graph of these edges alone
abbrev pub edges_alone : Weights → Graph
edges_alone weights = record { attrs = []; weights = weights }

-- whether a vertex is a successor
abbrev pub has : Successors → ℕ → Bool
has r v = list_any (λ u. u == v) (take r.count r.near) || contains nat_cmp r.far v

-- what the row of a vertex tells, or `none` where it has no row
abbrev pub row_value : {X : Type 0} → (Successors → X) → X → List Successors → ℕ → X
row_value f none [] u = none
row_value f none (r ∷ rows) zero = f r
row_value f none (r ∷ rows) (suc u) = row_value f none rows u

abbrev pub has_at : List Successors → ℕ → ℕ → Bool
has_at rows u v = row_value (λ r. has r v) false rows u

abbrev pub count_at : List Successors → ℕ → ℕ
count_at rows u = row_value (λ r. r.count) 0 rows u

-- the rows hold just the ends of the edges, and the edges out of and into each vertex are counted
pub record IsIndexed (es : List Edge) (rows : List Successors) (in_degrees : List ℕ) : Type 0 where
  pub apart : AreApart es
  pub held : (u v : ℕ) → has_at rows u v ≡ is_some (find pair_cmp (u, v) (map entry es))
  pub outs : (u : ℕ) → count_at rows u ≡ length (filter (λ e. e.src == u) es)
  pub ins : (v : ℕ) → slice_index_or in_degrees v 0 ≡ length (filter (λ e. e.dst == v) es)
