-- What is kept of rows stands for them.
use Rattle.std.proofs.Common.{◌≡◌, ℕ, ◌+◌, ◌<◌, Bool, List, [], length, sym, ap, ◌∙◌, arith}
use Rattle.std.proofs.lemmas.List.Elements.{All-get_or, All-from_get_or}
use Rattle.std.proofs.lemmas.List.FromFn.{get_or-map-range_with_len}
use Rattle.bolt_base.specs.Keep.{Entry, Row, column, stored, read}
use Rattle.bolt_base.specs.RowTable.{entry_at}
use Rattle.bolt_base.proofs.RowColumns.{column_read, same_rows, made_at, made_full, made_length}
use Rattle.agg_history.specs.Entries.{entry_in}
use Rattle.agg_history.specs.Pruned.{track_of, read_at, rows_from, first_row, pruned}
use Rattle.agg_history.specs.Laws.{PrunedStandsForRows}

pub pruned_track : (vertical : Bool) (rows : List Row) (v : ℕ) → v < length (first_row rows)
    → track_of (pruned vertical rows).tracks v ≡ stored vertical (column rows v)
pruned_track vertical rows v h = get_or-map-range_with_len (λ u. stored vertical (column rows u)) 0
    (length (first_row rows)) v v [] h (omega arith)

pub pruned_read : (vertical : Bool) (rows : List Row) (i v : ℕ) → i < length rows
    → v < length (first_row rows) → read_at (pruned vertical rows) i v ≡ entry_at rows i v
pruned_read vertical rows i v h l = ap (λ track. read (entry_in (first_row rows) v) track i)
    (pruned_track vertical rows v l) ∙ column_read vertical rows v i h

pub stands_for_rows : PrunedStandsForRows
stands_for_rows vertical rows cut n long full =
    let wide : length (first_row rows)
    ≡ n = All-get_or (λ row. length row ≡ n) rows 0 [] (omega arith) full in
    let f : ℕ → ℕ → Entry = read_at (pruned vertical rows) in
    let m : ℕ = length (first_row rows) in
    same_rows m (rows_from cut (pruned vertical rows)) rows (made_length f m (cut + 1) ∙ sym long)
    (made_full f m (cut + 1))
    (All-from_get_or (λ row. length row ≡ m) rows []
    (λ i h. All-get_or (λ row. length row ≡ n) rows i [] h full ∙ sym wide))
    (λ i v h l. let below : i < cut + 1 = omega (arith, made_length f m (cut + 1)) in
    made_at f m (cut + 1) i v below l ∙ pruned_read vertical rows i v (omega arith) l)
