-- The shape of rows: one entry for each vertex, and one number for each lane.
use Rattle.std.specs.Prelude.{◌≡◌, ℕ, ◌≤◌, List, length}
use Rattle.std.specs.List.{All}
use Rattle.bolt_base.specs.Keep.{Entry, Row}
use Rattle.bolt_base.specs.RowTable.{RowTable}
use Rattle.bolt_base.specs.declared.rows.TheConstants.{MOST_ROWS}

-- each row has an entry for each vertex
abbrev pub AreFull : ℕ → List Row → Type 0
AreFull vertices rows = All (λ row. length row ≡ vertices) rows

-- an entry has a number for each lane in both halves
pub record IsWide (lanes : ℕ) (e : Entry) : Type 0 where
  pub agg : length e.0 ≡ lanes
  pub val : length e.1 ≡ lanes

-- each entry of each row has a number for each lane
abbrev pub AreWide : ℕ → List Row → Type 0
AreWide lanes rows = All (λ row. All (IsWide lanes) row) rows

-- the rows are few, each is full, and each entry is as wide as the table says
pub record AreRectangular (t : RowTable) : Type 0 where
  pub few : length t.rows ≤ MOST_ROWS
  pub full : AreFull t.vertices t.rows
  pub wide : AreWide t.lanes t.rows
