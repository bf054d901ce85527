-- The draft of a commit.
use Rattle.std.specs.Prelude.{◌≡◌, ℕ, pos, ◌<◌, ◌≤◌, ◌==◌, List, map, length, replicate, sum_by}
use Rattle.std.specs.List.{All, IsDistinct}
use Rattle.bolt_base.specs.Keep.{Entry, column, stored}
use Rattle.bolt_base.specs.RowTable.{entry_at}
use Rattle.agg_history.specs.Entries.{Entries}
use Rattle.agg_history.specs.Puts.{PutTable}
use Rattle.agg_history.specs.Pruned.{HistoryState, pruned}
use Rattle.agg_history.specs.Belongs.{HaveNoPut, laid_rows}
use Rattle.agg_history.specs.declared.history.Draft.{Draft}

-- the new list of a vertex, with its number
abbrev pub new_list : PutTable → HistoryState → ℕ → ℕ × Entries
new_list t h v = (v, record { lanes = h.lanes; all = stored h.vertical (column (laid_rows t h) v) })

-- the draft has the new lists of all vertices for which something was put, and their new entries of
-- iteration 0
pub record IsDrafted (t : PutTable) (h : HistoryState) (d : Draft) : Type 0 where
  pub touched : List ℕ
  pub inside : All (λ v. v < t.vertices) touched
  pub distinct : IsDistinct (λ u v. u == v) touched
  pub others : HaveNoPut t touched
  pub more : t.old_vertices ≤ t.vertices
  pub vertices : d.vertices ≡ t.vertices
  pub lists : d.lists.items ≡ map (new_list t h) touched
  pub heads : d.heads ≡ record { lanes = h.lanes; all = map (entry_at (laid_rows t h) 0) touched }
  pub kept : d.kept ≡ sum_by (λ track. length track) (pruned h.vertical (laid_rows t h)).tracks

-- an entry of zeros, for a vertex that has none yet
abbrev pub blank_entry : ℕ → Entry
blank_entry lanes = (replicate lanes (pos 0), replicate lanes (pos 0))
