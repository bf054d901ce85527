-- A plain list of edges, read as a graph.
use Rattle.std.specs.Prelude.{◌≡◌, ℤ, List, [], ◌∷◌, map, Option, None}
use Rattle.std.specs.FinMap as finite
use Rattle.std.specs.FinMap.{find}
use Rattle.bolt_base.specs.Graph.{Graph, Pair, pair_cmp}
use Rattle.bolt_base.specs.declared.edge.Edge.{Edge}

abbrev pub entry : Edge → Pair × ℤ
entry e = ((e.src, e.dst), e.weight)

-- no two edges have the same ends
abbrev pub AreApart : List Edge → Type 0
AreApart [] = Unit {0}
AreApart (e ∷ es) = (find pair_cmp (e.src, e.dst) (map entry es) ≡ None) × AreApart es

-- the graph with these attributes and edges, in whatever order they are listed
abbrev pub graph_of : List ℤ → List Edge → Graph
graph_of attrs es = record { attrs = attrs; weights = finite.from_entries (map entry es) }

-- the weight of a pair, as a scan of the list from its front finds it
abbrev pub found : List Edge → Pair → Option ℤ
found es k = find pair_cmp k (map entry es)
