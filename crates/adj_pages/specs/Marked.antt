-- The marks of an index.
use Rattle.std.specs.Prelude.{List, map}
use Rattle.std.specs.Arc.{arc_value}
use Rattle.adjacency.specs.Row.{RowMap}
use Rattle.adj_pages.specs.Index.{Mark}
use Rattle.adj_pages.specs.declared.pages.Entry.{Entry}

abbrev pub mark : {X : Type 0} → (X → RowMap) → Entry X → Mark
mark arcs e = record { first = e.first; before = e.before; arcs = arcs (arc_value e.part) }

abbrev pub marks : {X : Type 0} → (X → RowMap) → List (Entry X) → List Mark
marks arcs es = map (mark arcs) es
