-- How far the rows of a new graph are put over those of an old one.
use Rattle.std.specs.Prelude.{◌≡◌, ℕ, ◌+◌, ◌<◌, List, [], map, length, take, Some}
use Rattle.bolt_base.specs.Graph.{Graph, vertices}
use Rattle.bolt_base.specs.Keep.{Entry}
use Rattle.vertex_expr.specs.declared.program.ProgramEntries.{ProgramEntries}
use Rattle.run_model.specs.Program.{lanes}
use Rattle.run_model.specs.Refined.{AreRefined, is_again}
use Rattle.run_model.specs.Rows.{entry, rows_to}
use Rattle.agg_history.specs.Belongs.{BelongsTo}
use Rattle.agg_history.specs.Pruned.{HistoryState, rows_of}
use Rattle.agg_history.specs.Puts.{PutTable, put_at, round_at}
use Rattle.refine_rows.specs.Picked.{vertices_where}

-- the history stands for the rows of a graph up to its cut
pub record StandsFor (p : ProgramEntries) (g : Graph) (history : HistoryState) : Type 0 where
  pub lanes : history.lanes ≡ lanes p
  pub rows : rows_of history ≡ rows_to p g history.cut

-- and the overlay is one for it, for the vertices of a new graph
pub record IsLaidOver (p : ProgramEntries) (g h : Graph) (history : HistoryState) (t : PutTable)
    : Type 0 where
  pub stands : StandsFor p g history
  pub belongs : BelongsTo t history
  pub vertices : t.vertices ≡ vertices h
  pub rounds : length t.puts ≡ t.cut + 1

-- the vertices that are evaluated again at an iteration, rising
abbrev pub again : ProgramEntries → Graph → Graph → ℕ → List ℕ
again p g h i = vertices_where (vertices h) (is_again p g h i)

-- the vertices that were put at an iteration, in the order of putting
abbrev pub vertices_put : PutTable → ℕ → List ℕ
vertices_put t i = map (λ put. put.0) (round_at t.puts i)

-- the iterations below i are refined: just the vertices that are evaluated again were put at each,
-- rising. So are the first few at iteration i, with their new entries, and nothing was put past it
pub record IsRefinedWithin (p : ProgramEntries) (g h : Graph) (history : HistoryState)
    (t : PutTable) (i : ℕ) : Type 0 where
  pub laid : IsLaidOver p g h history t
  pub done : AreRefined p g h (put_at t.puts) i
  pub listed : (j : ℕ) → j < i → vertices_put t j ≡ again p g h j
  pub first : vertices_put t i ≡ take (length (vertices_put t i)) (again p g h i)
  pub right : (v : ℕ) (e : Entry) → v < vertices h → put_at t.puts i v ≡ Some e
      → e ≡ entry p h i v
  pub rest : (j : ℕ) → i < j → round_at t.puts j ≡ []

-- the iterations below i are refined, and nothing was put from i on
pub record IsRefinedTo (p : ProgramEntries) (g h : Graph) (history : HistoryState)
    (t : PutTable) (i : ℕ) : Type 0 where
  pub within : IsRefinedWithin p g h history t i
  pub none : round_at t.puts i ≡ []
