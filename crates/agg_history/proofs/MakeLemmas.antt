-- A history made of rows.
use Rattle.std.proofs.Common.{◌≡◌, ℕ, ◌+◌, ◌<◌, ◌≤◌, Bool, List, [], ◌∷◌, ◌++◌, length, map}
use Rattle.std.proofs.Common.{take, refl, sym, ap, ◌∙◌, arith}
use Rattle.std.specs.List.{range_with_len}
use Rattle.std.proofs.lemmas.List.{take_more, take_all}
use Rattle.std.proofs.lemmas.List.FromFn.{length-map-range_with_len, fill_by_all}
use Rattle.std.proofs.lemmas.List.Elements.{All-get_or}
use Rattle.bolt_base.specs.Keep.{Entry, Row, no_entry, column, stored}
use Rattle.bolt_base.specs.RowTable.{RowTable, entry_at}
use Rattle.bolt_base.specs.RowShape.{AreFull}
use Rattle.bolt_base.proofs.RowColumns.{column_at, length-column, keep_below, length-stored}
use Rattle.agg_history.specs.Entries.{Entries}
use Rattle.agg_history.specs.Pruned.{first_row, pruned}
use Rattle.agg_history.specs.HistoryOf.{tracks_of}

pub column_more : (rows : List Row) (v i : ℕ) → i < length rows
    → take (i + 1) (column rows v) ≡ take i (column rows v) ++ entry_at rows i v ∷ []
column_more rows v i h = take_more (column rows v) i no_entry (omega (arith, length-column rows v))
    ∙ ap (λ e. take i (column rows v) ++ e ∷ []) (column_at rows v i h)

-- the track of a vertex, and how the code has it
abbrev pub track_in : Bool → List Row → ℕ → List Entry
track_in vertical rows v = stored vertical (column rows v)

abbrev pub track_cells : ℕ → Bool → List Row → ℕ → Entries
track_cells lanes vertical rows v = record { lanes = lanes; all = track_in vertical rows v }

pub map_map : {A B C : Type 0} (g : B → C) (f : A → B) (xs : List A)
    → map g (map f xs) ≡ map (λ x. g (f x)) xs
map_map g f [] = refl
map_map g f (x ∷ xs) = ap (λ ys. g (f x) ∷ ys) (map_map g f xs)

pub track_short : (vertical : Bool) (rows : List Row) (v : ℕ) → 0 < length rows
    → length (track_in vertical rows v) + 1 ≤ length rows
track_short vertical rows v some =
    let k = keep_below vertical (column rows v) (omega (arith, length-column rows v)) in
    omega (
      arith,
      length-stored vertical (column rows v) (omega (arith, length-column rows v)),
      length-column rows v,
    )

-- all vertices done
module _ (lanes n : ℕ) (vertical : Bool) (rows : List Row) (first : Row) (tracks : List Entries)
    (wide : length (first_row rows) ≡ n)
    (a : first ≡ map (entry_at rows 0) (range_with_len 0 n))
    (b : tracks ≡ map (track_cells lanes vertical rows) (range_with_len 0 n)) where
  pub first_done : take n first ≡ first_row rows
  first_done = take_all n first
      (omega (arith, ap length a, length-map-range_with_len (entry_at rows 0) 0 n)) ∙ a
      ∙ sym (fill_by_all (entry_at rows 0) (first_row rows) n no_entry wide (λ k h. refl))

  pub tracks_done : tracks_of n tracks ≡ (pruned vertical rows).tracks
  tracks_done = ap (map (λ (c : Entries). c.all))
      (take_all n tracks
      (omega (arith, ap length b, length-map-range_with_len (track_cells lanes vertical rows) 0 n))
      ∙ b)
      ∙ map_map (λ (c : Entries). c.all) (track_cells lanes vertical rows) (range_with_len 0 n)
      ∙ ap (λ m. map (track_in vertical rows) (range_with_len 0 m)) (sym wide)

  pub made_is : record { first = take n first; tracks = tracks_of n tracks } ≡ pruned vertical rows
  made_is = λ i. record { first = first_done i; tracks = tracks_done i }

-- the table of rows that are all done
module _ (lanes n v : ℕ) (vertical : Bool) (t : RowTable) (first : Row) (tracks : List Entries)
    (full : AreFull t.vertices t.rows) (some : 0 < length t.rows) (same : n ≡ t.vertices)
    (end : v ≡ n) (a : first ≡ map (entry_at t.rows 0) (range_with_len 0 v))
    (b : tracks ≡ map (track_cells lanes vertical t.rows) (range_with_len 0 v)) where
  pub first_wide : length (first_row t.rows) ≡ n
  first_wide = All-get_or (λ row. length row ≡ t.vertices) t.rows 0 [] some full ∙ sym same

  pub table_made : record { first = take n first; tracks = tracks_of n tracks }
      ≡ pruned vertical t.rows
  table_made =
      made_is lanes n vertical t.rows first tracks first_wide
      (a ∙ ap (λ m. map (entry_at t.rows 0) (range_with_len 0 m)) end)
      (b ∙ ap (λ m. map (track_cells lanes vertical t.rows) (range_with_len 0 m)) end)
