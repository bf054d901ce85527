-- The rows that flat numbers stand for.
use Rattle.std.specs.Prelude.{◌≡◌, ℕ, ◌*◌, ◌≤◌, map, length}
use Rattle.std.specs.List.{All}
use Rattle.bolt_base.specs.Keep.{Row}
use Rattle.bolt_base.specs.RowTable.{RowTable, entries_of}
use Rattle.bolt_base.specs.declared.rows.FlatRow.{FlatRow}
use Rattle.bolt_base.specs.declared.rows.Rows.TheInside.{Inside}
use Rattle.bolt_base.specs.declared.rows.TheConstants.{MOST_ROWS}

abbrev pub row_of : ℕ → ℕ → FlatRow → Row
row_of lanes vertices row = entries_of lanes vertices row.aggs.items row.vals.items

abbrev pub rows_of : Inside → RowTable
rows_of r = record {
  vertices = r.vertices;
  lanes = r.lanes;
  rows = map (row_of r.lanes r.vertices) r.rows.items;
}

-- a number for each lane of each vertex, twice
pub record IsFlat (lanes vertices : ℕ) (row : FlatRow) : Type 0 where
  pub aggs : length row.aggs.items ≡ vertices * lanes
  pub vals : length row.vals.items ≡ vertices * lanes

pub record AreFlat (r : Inside) : Type 0 where
  pub some : 1 ≤ r.lanes
  pub narrow : r.lanes ≤ 8
  pub few : length r.rows.items ≤ MOST_ROWS
  pub flat : All (IsFlat r.lanes r.vertices) r.rows.items
