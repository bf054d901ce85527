-- Rows that flat numbers stand for are rectangular; entries of rectangular rows.
use Rattle.std.proofs.Common.{◌≡◌, ℕ, ℤ, zero, suc, ◌*◌, ◌<◌, List, [], length, get_or, drop, arith}
use Rattle.std.proofs.Common.{length-take, length-drop, suc-mul}
use Rattle.std.specs.List.{All, AllByRecursion}
use Rattle.std.proofs.lemmas.List.{length-map}
use Rattle.std.proofs.lemmas.List.Elements.{All-get_or, All-map, All-from_recursion}
use Rattle.bolt_base.specs.Keep.{Row, no_entry}
use Rattle.bolt_base.specs.RowTable.{entries_of, entry_at}
use Rattle.bolt_base.specs.RowsOf.{rows_of, row_of, IsFlat, AreFlat}
use Rattle.bolt_base.specs.RowShape.{AreFull, IsWide, AreWide, AreRectangular}
use Rattle.bolt_base.specs.declared.rows.FlatRow.{FlatRow}
use Rattle.bolt_base.specs.declared.rows.Rows.TheInside.{Inside}
use Rattle.bolt_base.proofs.RowLemmas.{length-entries_of}

entries_wide : (l n : ℕ) (aggs vals : List ℤ) → length aggs ≡ n * l → length vals ≡ n * l
    → AllByRecursion (IsWide l) (entries_of l n aggs vals)
entries_wide l zero aggs vals a b = tt
entries_wide l (suc n) aggs vals a b = (
  record {
    agg = omega (arith, length-take l aggs, suc-mul n l);
    val = omega (arith, length-take l vals, suc-mul n l);
  },
  entries_wide l n (drop l aggs) (drop l vals)
      (omega (arith, length-drop l aggs, suc-mul n l))
      (omega (arith, length-drop l vals, suc-mul n l)),
)

module _ (r : Inside) (flat : AreFlat r) where
  abbrev row_in : FlatRow → Row
  row_in row = row_of r.lanes r.vertices row

  flat_full : AreFull r.vertices (rows_of r).rows
  flat_full = All-map (λ row. length row ≡ r.vertices) row_in r.rows.items
      (λ i d l. let row : FlatRow = get_or r.rows.items i d in length-entries_of r.lanes r.vertices
      row.aggs.items row.vals.items)

  flat_wide : AreWide r.lanes (rows_of r).rows
  flat_wide = All-map (λ row. All (IsWide r.lanes) row) row_in r.rows.items
      (λ i d l. let row : FlatRow = get_or r.rows.items i d in
      let fits : IsFlat r.lanes r.vertices row = flat.flat i d l in
      All-from_recursion (IsWide r.lanes) (row_in row)
      (entries_wide r.lanes r.vertices row.aggs.items row.vals.items fits.aggs fits.vals))

  pub flat_rectangular : AreRectangular (rows_of r)
  flat_rectangular = record {
    few = let most = flat.few in omega (arith, length-map r.rows.items row_in);
    full = flat_full;
    wide = flat_wide;
  }

-- an entry of rectangular rows is wide
pub entry_wide : (lanes n : ℕ) (rows : List Row) (i v : ℕ) → AreFull n rows → AreWide lanes rows
    → i < length rows → v < n → IsWide lanes (entry_at rows i v)
entry_wide lanes n rows i v full wide h l =
    let long : length (get_or rows i [])
    ≡ n = All-get_or (λ row. length row ≡ n) rows i [] h full in
    All-get_or (IsWide lanes) (get_or rows i []) v no_entry (omega arith)
    (All-get_or (λ row. All (IsWide lanes) row) rows i [] h wide)
