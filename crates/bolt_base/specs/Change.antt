-- What changed from a graph to another one.
use Rattle.std.specs.Prelude.{ℕ, ℤ, pos, Bool, false, not, ◌||◌, ◌==◌, List, map, filter, length}
use Rattle.std.specs.Prelude.{slice_index_or, Option, Some}
use Rattle.std.specs.Ordering.{int_eq}
use Rattle.std.specs.List.{list_any, range_with_len}
use Rattle.std.specs.FinMap as finite
use Rattle.bolt_base.specs.Graph.{Graph, Pair, edge, outdeg}
use Rattle.bolt_base.specs.declared.edge.Edge.{Edge}
use Rattle.bolt_base.specs.declared.edge.Touched.{Touched}
use Rattle.bolt_base.specs.declared.edge.AttrChange.{AttrChange}

-- both are there, and equal
abbrev pub same_weights : Option ℤ → Option ℤ → Bool
same_weights (Some x) (Some y) = int_eq x y
same_weights _ _ = false

-- the pair has an edge in both graphs, with one weight
abbrev pub stays : Graph → Graph → Pair → Bool
stays g h k = same_weights (finite.get g.weights k) (finite.get h.weights k)

-- the edges at the pairs that pass, by source and then by destination
abbrev pub edges_at : Graph → (Pair → Bool) → List Edge
edges_at g p = map edge (finite.entries (finite.retain_keys g.weights p))

-- the edges of g that h lacks or has with another weight
abbrev pub removed : Graph → Graph → List Edge
removed g h = edges_at g (λ k. not (stays g h k))

-- the edges of h that g lacks or has with another weight
abbrev pub added : Graph → Graph → List Edge
added g h = edges_at h (λ k. not (stays g h k))

-- the edges of h that g has with the same weight
abbrev pub stayed : Graph → Graph → List Edge
stayed g h = edges_at h (stays g h)

-- the vertex is the source of a removed or an added edge
abbrev pub is_source : Graph → Graph → ℕ → Bool
is_source g h u = list_any (λ e. e.src == u) (removed g h) || list_any (λ e. e.src == u) (added g h)

-- the sources of removed and added edges, rising, each with its old out-degree
abbrev pub sources : Graph → Graph → List Touched
sources g h =
    map (λ u. record { vertex = u; old_degree = outdeg g u })
    (filter (is_source g h) (range_with_len 0 (length h.attrs)))

abbrev pub attr_at : Graph → ℕ → ℤ
attr_at g v = slice_index_or g.attrs v (pos 0)

-- the vertices of g whose attribute is another one in h, rising, with both
abbrev pub changed_attrs : Graph → Graph → List AttrChange
changed_attrs g h =
    map (λ v. record { vertex = v; old = attr_at g v; new = attr_at h v })
    (filter (λ v. not (int_eq (attr_at g v) (attr_at h v))) (range_with_len 0 (length g.attrs)))
