-- What an iteration of a sum program adds to the words of the aggregates.
use Rattle.std.specs.Prelude.{ℕ, ℤ, neg_ℤ, ◌-◌, ◌-ℤ◌, ◌==◌, Bool, List, [], ◌∷◌, ◌++◌, map, filter}
use Rattle.std.specs.List.{flat_map, list_any, range_with_len}
use Rattle.bolt_base.specs.Change.{removed, added, stayed}
use Rattle.bolt_base.specs.Graph.{Graph, edges}
use Rattle.bolt_base.specs.Residue.{Amount, residue, word_at}
use Rattle.bolt_base.specs.declared.edge.Edge.{Edge}
use Rattle.vertex_expr.specs.declared.program.ProgramEntries.{ProgramEntries}
use Rattle.run_model.specs.Program.{lanes}
use Rattle.run_model.specs.Rows.{Contribution, contribution, row}
use Rattle.run_model.specs.Steps.{Step, step, dirty, active}

-- what is done again at an iteration
pub data Item : Type 0 where
  removed_edge : Edge → Item
  added_edge : Edge → Item
  dirty_vertex : ℕ → Item

-- what goes to one vertex, a number for each lane
pub record Gift : Type 0 where
  pub dst : ℕ
  pub amount : ℕ → ℤ

-- minus the old contribution of a removed edge, the new one of an added edge, and for each edge out
-- of a dirty vertex that stayed, by destination, the new one less the old one
abbrev pub gifts_of : List Edge → Contribution → Contribution → Item → List Gift
gifts_of stay was now (removed_edge e) = record { dst = e.dst; amount = λ l. neg_ℤ (was l e) } ∷ []
gifts_of stay was now (added_edge e) = record { dst = e.dst; amount = λ l. now l e } ∷ []
gifts_of stay was now (dirty_vertex u) =
    map (λ e. record { dst = e.dst; amount = λ l. now l e -ℤ was l e })
    (filter (λ e. e.src == u) stay)

-- the word of a lane of a vertex
abbrev pub word : ProgramEntries → ℕ → ℕ → ℕ
word p v l = word_at (lanes p) v l

-- a gift's amounts, lane by lane
abbrev pub amounts_of : ProgramEntries → Gift → List Amount
amounts_of p gift =
    map (λ l. record { word = word p gift.dst l; amount = residue (gift.amount l) })
    (range_with_len 0 (lanes p))

-- the amounts of an item
abbrev pub item_adds : ProgramEntries → List Edge → Contribution → Contribution → Item → List Amount
item_adds p stay was now item = flat_map (amounts_of p) (gifts_of stay was now item)

-- ---- an iteration up to the cut
-- contributions before and after
abbrev pub was : ProgramEntries → Step → Contribution
was p s = contribution p s.old_graph s.old_row

abbrev pub now : ProgramEntries → Step → Contribution
now p s = contribution p s.new_graph s.new_row

-- the removed edges and then the added ones, by source and destination, and then the dirty
-- vertices, rising
abbrev pub items : ProgramEntries → Step → List Item
items p s =
    map removed_edge (removed s.old_graph s.new_graph)
    ++ map added_edge (added s.old_graph s.new_graph) ++ map dirty_vertex (dirty p s)

-- the amounts of some items, item after item
abbrev pub adds_of : ProgramEntries → Step → List Item → List Amount
adds_of p s its = flat_map (item_adds p (stayed s.old_graph s.new_graph) (was p s) (now p s)) its

-- the amounts of an iteration
abbrev pub adds : ProgramEntries → Graph → Graph → ℕ → List Amount
adds p g h i = adds_of p (step p g h i) (items p (step p g h i))

-- ---- an iteration past the cut: the active vertices are the only items, and every edge stays
abbrev pub tail_items : ProgramEntries → Graph → ℕ → List Item
tail_items p h i = map dirty_vertex (active p h i)

abbrev pub tail_adds_of : ProgramEntries → Graph → ℕ → List Item → List Amount
tail_adds_of p h i its =
    let before = contribution p h (row p h (i - 2)) in
    let after = contribution p h (row p h (i - 1)) in
    flat_map (item_adds p (edges h) before after) its

abbrev pub tail_adds : ProgramEntries → Graph → ℕ → List Amount
tail_adds p h i = tail_adds_of p h i (tail_items p h i)

-- ---- targets
-- an end of an edge that is named in the amounts of an iteration
abbrev pub is_named : ProgramEntries → Step → ℕ → Bool
is_named p s v =
    list_any (λ gift. gift.dst == v)
    (flat_map (gifts_of (stayed s.old_graph s.new_graph) (was p s) (now p s)) (items p s))
