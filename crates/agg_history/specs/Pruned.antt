-- A history: row 0 and the kept entries of each vertex, and the rows that they stand for.
use Rattle.std.specs.Prelude.{ℕ, ◌+◌, Bool, List, [], map, length, slice_index_or, Option}
use Rattle.std.specs.Prelude.{None, refl}
use Rattle.std.specs.List.{range_with_len}
use Rattle.std.specs.Coded.{Coded, code_by, coded×, coded_ℕ, coded_bool, coded_list, coded_option}
use Rattle.bolt_base.specs.Keep.{Entry, Row, column, stored, read}
use Rattle.bolt_base.specs.RowTable.{RowTable}
use Rattle.agg_history.specs.Entries.{coded_entry, entry_in}

-- row 0, and of each vertex the entries of the iterations from 1 on that are kept
pub record Pruned : Type 0 where
  pub first : Row
  pub tracks : List (List Entry)

abbrev pub track_of : List (List Entry) → ℕ → List Entry
track_of tracks v = slice_index_or tracks v []

-- the entry of a vertex at an iteration, kept or pruned
abbrev pub read_at : Pruned → ℕ → ℕ → Entry
read_at p i v = read (entry_in p.first v) (track_of p.tracks v) i

-- the rows 0 to the cut
abbrev pub rows_from : ℕ → Pruned → List Row
rows_from cut p = map (λ i. map (read_at p i) (range_with_len 0 (length p.first)))
    (range_with_len 0 (cut + 1))

abbrev pub first_row : List Row → Row
first_row rows = slice_index_or rows 0 []

-- what is kept of rows
abbrev pub pruned : Bool → List Row → Pruned
pruned vertical rows = record {
  first = first_row rows;
  tracks = map (λ v. stored vertical (column rows v)) (range_with_len 0 (length (first_row rows)));
}

-- what a history has now, and what a commit will make of it, if that is reserved
pub record HistoryState : Type 0 where
  pub vertical : Bool
  pub cut : ℕ
  pub lanes : ℕ
  pub now : Pruned
  pub next : Option Pruned

-- the history of rows
abbrev pub history_for : Bool → ℕ → RowTable → HistoryState
history_for vertical cut t = record {
  vertical = vertical;
  cut = cut;
  lanes = t.lanes;
  now = pruned vertical t.rows;
  next = None;
}

-- the rows that it stands for
abbrev pub rows_of : HistoryState → List Row
rows_of h = rows_from h.cut h.now

abbrev pub vertices_of : HistoryState → ℕ
vertices_of h = length h.now.first

-- how the logic stores them
abbrev pub coded_pruned : Coded Pruned
coded_pruned =
    code_by (Row × List (List Entry))
    (coded× (coded_list coded_entry) (coded_list (coded_list coded_entry)))
    (λ p. (p.first, p.tracks)) (λ q. record { first = q.0; tracks = q.1 }) (λ _. refl)

abbrev pub coded_history : Coded HistoryState
coded_history =
    code_by (Bool × (ℕ × (ℕ × (Pruned × Option Pruned))))
    (coded× coded_bool (coded× coded_ℕ (coded× coded_ℕ
    (coded× coded_pruned (coded_option coded_pruned)))))
    (λ h. (h.vertical, (h.cut, (h.lanes, (h.now, h.next)))))
    (λ p. record {
      vertical = p.0;
      cut = p.1.0;
      lanes = p.1.1.0;
      now = p.1.1.1.0;
      next = p.1.1.1.1;
    }) (λ _. refl)
