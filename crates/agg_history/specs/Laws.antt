-- Laws of the history and of what is put over it, each the clause of a public function.
use Rattle.std.specs.Prelude.{◌≡◌, ℕ, ◌+◌, ◌<◌, Bool, List, [], length, replicate, Some, None}
use Rattle.bolt_base.specs.Keep.{Entry, Row}
use Rattle.bolt_base.specs.RowTable.{entry_at}
use Rattle.bolt_base.specs.RowShape.{AreFull}
use Rattle.agg_history.specs.Puts.{Round, IsPutMore, put_at, with_put, laid_at, laid_over}
use Rattle.agg_history.specs.Pruned.{pruned, rows_from}

-- what is kept of rows stands for these rows
abbrev pub PrunedStandsForRows : Type 0
PrunedStandsForRows = (vertical : Bool) (rows : List Row) (cut n : ℕ) → length rows ≡ cut + 1
    → AreFull n rows
    → rows_from cut (pruned vertical rows) ≡ rows

-- each put has the entry of the new rows
abbrev pub AreRight : ℕ → List Round → List Row → Type 0
AreRight n puts new = (i v : ℕ) (e : Entry) → i < length new → v < n → put_at puts i v ≡ Some e
    → e ≡ entry_at new i v

-- the puts lead from the old rows to the new ones: each has the new entry, and where there is none
-- the old entry is the new one
pub record LeadsTo (n : ℕ) (puts : List Round) (old new : List Row) : Type 0 where
  pub right : AreRight n puts new
  pub rest : (i v : ℕ) → i < length new → v < n → put_at puts i v ≡ None
      → entry_at old i v ≡ entry_at new i v

abbrev pub LaidOverIsNew : Type 0
LaidOverIsNew = (n : ℕ) (puts : List Round) (old new : List Row) → length old ≡ length new
    → AreFull n new
    → LeadsTo n puts old new → laid_over n puts old ≡ new

-- the entry of the rows laid over
abbrev pub LaidOverReads : Type 0
LaidOverReads = (n : ℕ) (puts : List Round) (rows : List Row) (i v : ℕ) → i < length rows → v < n
    → entry_at (laid_over n puts rows) i v ≡ laid_at puts rows i v

-- a put more is found
abbrev pub PutIsFound : Type 0
PutIsFound = (puts : List Round) (i v : ℕ) (e : Entry) → i < length puts → put_at puts i v ≡ None
    → IsPutMore puts i v e (with_put puts i v e)

-- before the first put there is none
abbrev pub NoneIsPut : Type 0
NoneIsPut = (m i v : ℕ) → put_at (replicate m []) i v ≡ None

-- puts stay right with one more that is right
abbrev pub RightPutsStayRight : Type 0
RightPutsStayRight = (n : ℕ) (puts more : List Round) (new : List Row) (i v : ℕ)
    → IsPutMore puts i v (entry_at new i v) more → AreRight n puts new → AreRight n more new
