-- Laws of rows and of what is kept of them, each the clause of a public function.
use Rattle.std.specs.Prelude.{◌≡◌, ℕ, ◌<◌, Bool, List, map, length, slice_index_or, sum_by}
use Rattle.std.specs.List.{range_with_len}
use Rattle.bolt_base.specs.Keep.{Entry, Row, no_entry, column, keep, kept, stored}
use Rattle.bolt_base.specs.RowShape.{AreFull}
use Rattle.bolt_base.specs.RowTable.{entry_at}

-- the column of a vertex has one entry for each row, that of the row
abbrev pub ColumnHasLength : Type 0
ColumnHasLength = (rows : List Row) (v : ℕ) → length (column rows v) ≡ length rows

abbrev pub ColumnHasEntries : Type 0
ColumnHasEntries = (rows : List Row) (v i : ℕ) → i < length rows
    → slice_index_or (column rows v) i no_entry ≡ entry_at rows i v

-- full rows with the same entries are the same
abbrev pub SameEntriesAreSameRows : Type 0
SameEntriesAreSameRows = (n : ℕ) (a b : List Row) → length a ≡ length b → AreFull n a → AreFull n b
    → ((i v : ℕ) → i < length a → v < n → entry_at a i v ≡ entry_at b i v) → a ≡ b

-- fewer entries are kept than there are, as many as `keep` says
abbrev pub KeepIsBelow : Type 0
KeepIsBelow = (vertical : Bool) (entries : List Entry) → 0 < length entries
    → keep vertical entries < length entries

abbrev pub StoredHaveLength : Type 0
StoredHaveLength = (vertical : Bool) (entries : List Entry) → 0 < length entries
    → length (stored vertical entries) ≡ keep vertical entries

-- the stored entries of n vertices are `kept` together
abbrev pub StoredSumToKept : Type 0
StoredSumToKept = (vertical : Bool) (rows : List Row) (n : ℕ) → 0 < length rows
    → sum_by (λ track. length track)
    (map (λ v. stored vertical (column rows v)) (range_with_len 0 n))
    ≡ kept vertical rows n
