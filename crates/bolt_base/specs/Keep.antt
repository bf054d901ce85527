-- Which iterations of a vertex are kept.
use Rattle.std.specs.Prelude.{ℕ, ℤ, ◌-◌, Bool, true, false, ◌&&◌, List, [], ◌∷◌, map, length, min}
use Rattle.std.specs.Prelude.{take, drop, slice_index_or, sum_by}
use Rattle.std.specs.Ordering.{int_eq}
use Rattle.std.specs.List.{suffix_len, range_with_len}
use Rattle.std.specs.Cmp.Lexicographic.{pointwise}

-- what a vertex has at an iteration: its aggregate and its value, a number for each lane
abbrev pub Entry : Type 0
Entry = List ℤ × List ℤ

-- a row has one entry for each vertex
abbrev pub Row : Type 0
Row = List Entry

abbrev pub same_entry : Entry → Entry → Bool
same_entry a b = pointwise int_eq a.0 b.0 && pointwise int_eq a.1 b.1

abbrev pub no_entry : Entry
no_entry = ([], [])

abbrev pub last_of : List Entry → Entry
last_of entries = slice_index_or entries (length entries - 1) no_entry

-- the entries of a vertex at the iterations from 0 on
abbrev pub column : List Row → ℕ → List Entry
column rows v = map (λ row. slice_index_or row v no_entry) rows

-- the least iteration from which on all entries are equal: those that equal the last one are left
-- out, but for their first
abbrev pub rest_at : List Entry → ℕ
rest_at entries = length entries - suffix_len (λ e. same_entry e (last_of entries)) entries

-- the last iteration that is kept; each one is, unless those are left out at which the vertex has
-- come to rest
abbrev pub keep : Bool → List Entry → ℕ
keep true entries = rest_at entries
keep false entries = length entries - 1

-- the entries that are kept: those of the iterations 1 to `keep`
abbrev pub stored : Bool → List Entry → List Entry
stored vertical entries = take (keep vertical entries) (drop 1 entries)

-- the number of kept entries of all n vertices
abbrev pub kept : Bool → List Row → ℕ → ℕ
kept vertical rows n = sum_by (λ v. keep vertical (column rows v)) (range_with_len 0 n)

-- the entry at iteration j, from the first one and the kept ones
abbrev pub read : Entry → List Entry → ℕ → Entry
read first kept j = slice_index_or (first ∷ kept) (min j (length kept)) no_entry
