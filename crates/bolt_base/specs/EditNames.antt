-- What an edit names, and a list of edges with one more.
use Rattle.std.specs.Prelude.{◌≡◌, ◌≢◌, ℕ, ◌+◌, ◌==◌, Bool, false, ◌&&◌, List, ◌∷◌, ◌++◌, Option}
use Rattle.std.specs.Prelude.{Some, None}
use Rattle.bolt_base.specs.Graph.{Graph, Pair, edges, out_edges, in_edges}
use Rattle.bolt_base.specs.declared.edge.Edge.{Edge}
use Rattle.bolt_base.specs.declared.edge.Edit.{Edit}
use Rattle.bolt_base.specs.declared.edge.Edit.TheVariants.{Add, Cut, Attr}
use Rattle.bolt_base.specs.declared.limits.LineCause.{LineCause}

-- the edit adds or cuts the edge of the pair
abbrev pub names_pair : Pair → Edit → Bool
names_pair k (Add e) = (e.src == k.0) && (e.dst == k.1)
names_pair k (Cut s d) = (s == k.0) && (d == k.1)
names_pair k (Attr v a) = false

-- it sets the attribute of the vertex, or adds the vertex
abbrev pub names_vertex : ℕ → Edit → Bool
names_vertex u (Add e) = false
names_vertex u (Cut s d) = false
names_vertex u (Attr v a) = v == u

-- what is bad among some edits, or else among those that follow these n
abbrev pub bad_then : Option (ℕ × LineCause) → ℕ → Option (ℕ × LineCause) → Option (ℕ × LineCause)
bad_then (Some p) n more = Some p
bad_then None n None = None
bad_then None n (Some p) = Some (n + p.0, p.1)

-- the list has the edge more, at some place
pub record IsInserted (e : Edge) (old new : List Edge) : Type 0 where
  pub front : List Edge
  pub back : List Edge
  pub was : old ≡ front ++ back
  pub is : new ≡ front ++ e ∷ back

-- the larger graph has the edge more, out of its source and into its destination, and the same
-- edges otherwise
pub record IsOneMore (e : Edge) (lesser larger : Graph) : Type 0 where
  pub all : IsInserted e (edges lesser) (edges larger)
  pub out : IsInserted e (out_edges lesser e.src) (out_edges larger e.src)
  pub into : IsInserted e (in_edges lesser e.dst) (in_edges larger e.dst)
  pub others_out : (u : ℕ) → u ≢ e.src → out_edges larger u ≡ out_edges lesser u
  pub others_into : (v : ℕ) → v ≢ e.dst → in_edges larger v ≡ in_edges lesser v
