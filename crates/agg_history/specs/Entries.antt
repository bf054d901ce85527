-- Entries of one width, as flat numbers.
use Rattle.std.specs.Prelude.{◌≡◌, ℕ, ℤ, zero, suc, ◌+◌, ◌*◌, ◌≤◌, List, [], ◌∷◌, ◌++◌, take, drop}
use Rattle.std.specs.Prelude.{length, slice_index_or, refl}
use Rattle.std.specs.Coded.{Coded, code_by, coded×, coded_ℕ, coded_ℤ, coded_list}
use Rattle.bolt_base.specs.Keep.{Entry, no_entry}

-- entries of so many lanes
pub record Entries : Type 0 where
  pub lanes : ℕ
  pub all : List Entry

-- entry j
abbrev pub entry_in : List Entry → ℕ → Entry
entry_in entries j = slice_index_or entries j no_entry

-- one entry more
abbrev pub with_entry : Entries → Entry → Entries
with_entry cells e = record cells { all = cells.all ++ e ∷ [] }

-- how the logic stores them
abbrev pub coded_entry : Coded Entry
coded_entry = coded× (coded_list coded_ℤ) (coded_list coded_ℤ)

abbrev pub coded_entries : Coded Entries
coded_entries = code_by (ℕ × List Entry) (coded× coded_ℕ (coded_list coded_entry))
    (λ e. (e.lanes, e.all)) (λ p. record { lanes = p.0; all = p.1 }) (λ _. refl)

-- the numbers of an entry: those of the aggregate and those of the value
abbrev pub words_of : Entry → List ℤ
words_of e = e.0 ++ e.1

-- the first n entries of a list of numbers
abbrev pub chunks : ℕ → ℕ → List ℤ → List Entry
chunks lanes zero words = []
chunks lanes (suc n) words = (take lanes words, take lanes (drop lanes words))
    ∷ chunks lanes n (drop (lanes + lanes) words)

-- at most eight lanes, and the numbers of so many entries
pub record AreCells (lanes len : ℕ) (words : List ℤ) : Type 0 where
  pub narrow : lanes ≤ 8
  pub long : length words ≡ len * (lanes + lanes)
