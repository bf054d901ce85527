-- The entries of a vertex in rows, what is kept of them, and rows made of their entries.
use Rattle.std.proofs.Common.{◌≡◌, ℕ, ◌+◌, ◌<◌, Bool, true, false, List, [], ◌∷◌, length, get_or}
use Rattle.std.proofs.Common.{map, drop, refl, sym, ap, ◌∙◌, arith, length-take, length-drop}
use Rattle.std.specs.Prelude.{sum_by}
use Rattle.std.specs.List.{range_with_len}
use Rattle.std.proofs.lemmas.List.{ext_get_or, get_or-map, length-map}
use Rattle.std.proofs.lemmas.List.Elements.{All-get_or, All-from_get_or}
use Rattle.std.proofs.lemmas.List.FromFn.{get_or-map-range_with_len, length-map-range_with_len}
use Rattle.std.proofs.lemmas.List.Sums.{sum_by-cons}
use Rattle.bolt_base.specs.Keep.{Entry, Row, no_entry, column, keep, stored, read}
use Rattle.bolt_base.specs.LawsOfRows.{ColumnHasLength, ColumnHasEntries, SameEntriesAreSameRows}
use Rattle.bolt_base.specs.LawsOfRows.{KeepIsBelow, StoredHaveLength, StoredSumToKept}
use Rattle.bolt_base.specs.RowShape.{AreFull}
use Rattle.bolt_base.specs.RowTable.{entry_at}
use Rattle.bolt_base.proofs.KeepLemmas.{rest_below, read_stored}

-- ---- columns
pub length-column : ColumnHasLength
length-column rows v = length-map rows (λ row. get_or row v no_entry)

pub column_at : ColumnHasEntries
column_at rows v i h = get_or-map (λ row. get_or row v no_entry) rows i [] no_entry h

-- what is read from the entries that are kept of a column is its entry
pub column_read : (vertical : Bool) (rows : List Row) (v i : ℕ) → i < length rows
    → read (entry_at rows 0 v) (stored vertical (column rows v)) i ≡ entry_at rows i v
column_read vertical [] v i h = absurd (omega arith)
column_read vertical (r ∷ rows) v i h =
    read_stored vertical (get_or r v no_entry) (column rows v) i
    (omega (arith, length-column rows v)) ∙ column_at (r ∷ rows) v i h

-- rows with the same entries are the same
pub same_rows : SameEntriesAreSameRows
same_rows n a b long full_a full_b same = ext_get_or [] a b long (λ i h.
    let wide_a : length (get_or a i []) ≡ n = All-get_or (λ row. length row ≡ n) a i [] h full_a in
    let wide_b : length (get_or b i [])
    ≡ n = All-get_or (λ row. length row ≡ n) b i [] (omega arith) full_b in
    ext_get_or no_entry (get_or a i []) (get_or b i []) (wide_a ∙ sym wide_b)
    (λ v l. same i v h (omega arith)))

-- ---- rows that are made of their entries
module _ (f : ℕ → ℕ → Entry) (n m : ℕ) where
  pub made_row : (i : ℕ) → i < m
      → get_or (map (λ i. map (f i) (range_with_len 0 n)) (range_with_len 0 m)) i []
      ≡ map (f i) (range_with_len 0 n)
  made_row i h = get_or-map-range_with_len (λ i. map (f i) (range_with_len 0 n)) 0 m i i [] h
      (omega arith)

  pub made_at : (i v : ℕ) → i < m → v < n
      → entry_at (map (λ i. map (f i) (range_with_len 0 n)) (range_with_len 0 m)) i v ≡ f i v
  made_at i v h l = ap (λ row. get_or row v no_entry) (made_row i h)
      ∙ get_or-map-range_with_len (f i) 0 n v v no_entry l (omega arith)

  pub made_full : AreFull n (map (λ i. map (f i) (range_with_len 0 n)) (range_with_len 0 m))
  made_full = All-from_get_or (λ row. length row ≡ n) _ [] (λ i h.
      let l : i < m = omega (
        arith,
        length-map-range_with_len (λ i. map (f i) (range_with_len 0 n))
            0 m,
      ) in
      ap length (made_row i l) ∙ length-map-range_with_len (f i) 0 n)

  pub made_length : length (map (λ i. map (f i) (range_with_len 0 n)) (range_with_len 0 m)) ≡ m
  made_length = length-map-range_with_len (λ i. map (f i) (range_with_len 0 n)) 0 m

-- ---- how many are kept
pub keep_below : KeepIsBelow
keep_below true es some = rest_below es some
keep_below false es some = omega arith

pub length-stored : StoredHaveLength
length-stored vertical es some =
    let k = keep_below vertical es some in
    omega (arith, length-take (keep vertical es) (drop 1 es), length-drop 1 es)

sum_stored : (vertical : Bool) (rows : List Row) (vs : List ℕ) → 0 < length rows
    → sum_by (λ track. length track) (map (λ v. stored vertical (column rows v)) vs)
    ≡ sum_by (λ v. keep vertical (column rows v)) vs
sum_stored vertical rows [] some = refl
sum_stored vertical rows (v ∷ vs) some =
    let here = length-stored vertical (column rows v) (omega (arith, length-column rows v)) in
    let track : ℕ → List Entry = λ u. stored vertical (column rows u) in
    sum_by-cons (λ (es : List Entry). length es) (track v) (map track vs)
    ∙ (λ i. here i + sum_stored vertical rows vs some i)
    ∙ sym (sum_by-cons (λ u. keep vertical (column rows u)) v vs)

pub sum_kept : StoredSumToKept
sum_kept vertical rows n some = sum_stored vertical rows (range_with_len 0 n) some
