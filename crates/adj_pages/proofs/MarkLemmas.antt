-- The marks of a longer index.
use Rattle.std.proofs.Common.{◌≡◌, ◌<◌, ℕ, List, [], ◌∷◌, ◌++◌, length, get_or}
use Rattle.std.proofs.lemmas.List.{map-append, get_or-map}
use Rattle.adjacency.specs.Row.{RowMap}
use Rattle.std.specs.FinMap as finite
use Rattle.adj_pages.specs.Index.{mark_at}
use Rattle.adj_pages.specs.Marked.{mark, marks}
use Rattle.adj_pages.specs.declared.pages.Entry.{Entry}

pub marks_push : {X : Type 0} (arcs : X → RowMap) (es : List (Entry X)) (e : Entry X)
    → marks arcs (es ++ e ∷ []) ≡ marks arcs es ++ mark arcs e ∷ []
marks_push arcs es e = map-append (mark arcs) es (e ∷ [])

pub mark_read : {X : Type 0} (arcs : X → RowMap) (es : List (Entry X)) (i : ℕ) (d : Entry X)
    → i < length es → mark_at (marks arcs es) i ≡ mark arcs (get_or es i d)
mark_read arcs es i d l = get_or-map (mark arcs) es i d
    (record { first = 0; before = 0; arcs = finite.empty }) l
