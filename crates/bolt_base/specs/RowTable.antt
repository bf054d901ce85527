-- The rows of a run, from iteration 0 on.
use Rattle.std.specs.Prelude.{ℕ, ℤ, zero, suc, List, [], ◌∷◌, take, drop, slice_index_or, refl}
use Rattle.std.specs.Coded.{Coded, code_by, coded×, coded_ℕ, coded_ℤ, coded_list}
use Rattle.bolt_base.specs.Keep.{Entry, Row, no_entry}

-- rows of the entries of so many vertices, an entry having so many lanes
pub record RowTable : Type 0 where
  pub vertices : ℕ
  pub lanes : ℕ
  pub rows : List Row

-- how the logic stores them
abbrev pub coded_rows : Coded (List Row)
coded_rows = coded_list (coded_list (coded× (coded_list coded_ℤ) (coded_list coded_ℤ)))

abbrev pub coded_row_table : Coded RowTable
coded_row_table =
    code_by (ℕ × (ℕ × List Row)) (coded× coded_ℕ (coded× coded_ℕ coded_rows))
    (λ t. (t.vertices, (t.lanes, t.rows)))
    (λ p. record { vertices = p.0; lanes = p.1.0; rows = p.1.1 }) (λ _. refl)

-- what a vertex has at an iteration
abbrev pub entry_at : List Row → ℕ → ℕ → Entry
entry_at rows i v = slice_index_or (slice_index_or rows i []) v no_entry

-- the first n entries of a row, from the numbers of its aggregates and those of its values
abbrev pub entries_of : ℕ → ℕ → List ℤ → List ℤ → List Entry
entries_of lanes zero aggs vals = []
entries_of lanes (suc n) aggs vals =
    (take lanes aggs, take lanes vals) ∷ entries_of lanes n (drop lanes aggs) (drop lanes vals)
