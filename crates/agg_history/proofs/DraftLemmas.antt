-- What a draft makes of a history.
use Rattle.std.proofs.Common.{◌≡◌, ℕ, ◌+◌, ◌-◌, ◌<◌, ◌≤◌, false, eqb, List, [], ◌++◌, length}
use Rattle.std.proofs.Common.{get_or, map, replicate, Option, None, Some, IsSome, inl, inr, refl}
use Rattle.std.proofs.Common.{sym, ap, ◌∙◌, subst, arith}
use Rattle.std.specs.List.{All, IsDistinct, list_any, sum_by, range_with_len}
use Rattle.std.specs.Option.{unwrap_or}
use Rattle.std.proofs.lemmas.Bool.{cases_lt, false≢true}
use Rattle.std.proofs.lemmas.List.{ext_get_or, length-append, length-replicate}
use Rattle.std.proofs.lemmas.List.FromFn.{length-map-range_with_len}
use Rattle.bolt_base.specs.Keep.{Entry, no_entry, column, stored}
use Rattle.bolt_base.specs.RowTable.{entry_at}
use Rattle.swaps.specs.Swaps.{put_all}
use Rattle.bolt_base.proofs.RowColumns.{column_at, length-column, made_full, made_length}
use Rattle.agg_history.specs.Entries.{entry_in}
use Rattle.agg_history.specs.Puts.{PutTable, put_at, laid_at}
use Rattle.bolt_base.specs.RowShape.{AreFull}
use Rattle.agg_history.specs.Pruned.{Pruned, HistoryState, read_at, track_of, rows_from, rows_of}
use Rattle.agg_history.specs.Pruned.{vertices_of, first_row, pruned}
use Rattle.agg_history.specs.Belongs.{BelongsTo, NewArePut, HaveNoPut, laid_rows}
use Rattle.agg_history.proofs.PrunedLemmas.{pruned_track, stands_for_rows}
use Rattle.agg_history.proofs.PutLemmas.{laid_reads}
use Rattle.agg_history.proofs.MakeLemmas.{track_in}
use Rattle.swaps.specs.Swaps.{placed}
use Rattle.swaps.proofs.PutAllLemmas.{put_all_made, get_or-blanks, sum_with_blanks, sum_put}

module _ (t : PutTable) (h : HistoryState) where
  pub rows_count : length (rows_of h) ≡ h.cut + 1
  rows_count = made_length (read_at h.now) (vertices_of h) (h.cut + 1)

  pub laid_count : length (laid_rows t h) ≡ h.cut + 1
  laid_count = made_length (laid_at t.puts (rows_of h)) t.vertices (length (rows_of h)) ∙ rows_count

  pub laid_full : AreFull t.vertices (laid_rows t h)
  laid_full = made_full (laid_at t.puts (rows_of h)) t.vertices (length (rows_of h))

  pub laid_wide : length (first_row (laid_rows t h)) ≡ t.vertices
  laid_wide = laid_full 0 [] (omega (arith, laid_count))

  -- what a commit makes of a history stands for the rows laid over
  pub laid_stands : rows_from h.cut (pruned h.vertical (laid_rows t h)) ≡ laid_rows t h
  laid_stands = stands_for_rows h.vertical (laid_rows t h) h.cut t.vertices laid_count laid_full

  pub laid_entry : (i v : ℕ) → i ≤ h.cut → v < t.vertices
      → entry_at (laid_rows t h) i v ≡ laid_at t.puts (rows_of h) i v
  laid_entry i v l m = laid_reads t.vertices t.puts (rows_of h) i v (omega (arith, rows_count)) m

  module _ (belongs : BelongsTo t h) (new : NewArePut t) (more : t.old_vertices ≤ t.vertices)
      (touched : List ℕ) (others : HaveNoPut t touched)
      (lean : pruned h.vertical (rows_of h) ≡ h.now) where
    some_is : {X : Type 0} (o : Option X) → IsSome o → o ≡ None → ⊥
    some_is None s e = absurd (false≢true s)
    some_is (Some x) s e = cc

    -- a vertex for which nothing was put is an old one
    pub untouched_old : (v : ℕ) → v < t.vertices → list_any (λ u. eqb v u) touched ≡ false
        → v < vertices_of h
    untouched_old v m none = elim (cases_lt v (vertices_of h)) [
      | inl l ↦ l
      | inr l ↦ let old = belongs.vertices in
          absurd (some_is (put_at t.puts 0 v) (new 0 v (omega arith) (omega arith) m)
          (others 0 v (omega arith) m none))
    ]

    untouched_entry : (i v : ℕ) → i ≤ h.cut → v < t.vertices
        → list_any (λ u. eqb v u) touched ≡ false
        → entry_at (laid_rows t h) i v ≡ entry_at (rows_of h) i v
    untouched_entry i v l m none = laid_entry i v l m
        ∙ ap (λ o. unwrap_or o (entry_at (rows_of h) i v))
        (others i v (let c = belongs.cut in omega arith) m none)

    untouched_column : (v : ℕ) → v < t.vertices → list_any (λ u. eqb v u) touched ≡ false
        → column (laid_rows t h) v ≡ column (rows_of h) v
    untouched_column v m none = ext_get_or no_entry _ _
        (length-column (laid_rows t h) v ∙ laid_count ∙ sym rows_count
        ∙ sym (length-column (rows_of h) v))
        (λ i l. let k : i < h.cut + 1 = omega
        (arith, length-column (laid_rows t h) v, laid_count) in
        column_at (laid_rows t h) v i (omega (arith, laid_count))
        ∙ untouched_entry i v (omega arith) m none
        ∙ sym (column_at (rows_of h) v i (omega (arith, rows_count))))

    pub untouched_track : (v : ℕ) → v < t.vertices → list_any (λ u. eqb v u) touched ≡ false
        → track_of h.now.tracks v ≡ track_in h.vertical (laid_rows t h) v
    untouched_track v m none =
        let old = untouched_old v m none in
        let first : length (first_row (rows_of h))
        ≡ vertices_of h = ap (λ (p : Pruned). length p.first) lean in
        ap (λ (p : Pruned). track_of p.tracks v) (sym lean)
        ∙ pruned_track h.vertical (rows_of h) v (omega arith)
        ∙ ap (stored h.vertical) (sym (untouched_column v m none))

    pub untouched_first : (v : ℕ) → v < t.vertices → list_any (λ u. eqb v u) touched ≡ false
        → entry_in h.now.first v ≡ entry_at (laid_rows t h) 0 v
    untouched_first v m none = ap (λ (p : Pruned). entry_in p.first v) (sym lean)
        ∙ sym (untouched_entry 0 v (omega arith) m none)

    -- lists of what the vertices have, with what comes put in place
    pub drafted_list : {X : Type 0} (f : ℕ → X) (d : X) (xs : List X) (k : ℕ)
        → length (xs ++ replicate k d) ≡ t.vertices
        → ((v : ℕ) → v < t.vertices → list_any (λ u. eqb v u) touched ≡ false → get_or xs v d ≡ f v)
        → put_all (placed f touched) (xs ++ replicate k d) ≡ map f (range_with_len 0 t.vertices)
    drafted_list f d xs k long same = put_all_made f d touched (xs ++ replicate k d) t.vertices long
        (λ v m none. get_or-blanks xs k v d ∙ same v m none)

    tracks_count : length h.now.tracks ≡ vertices_of h
    tracks_count = ap (λ (p : Pruned). length p.tracks) (sym lean)
        ∙ length-map-range_with_len (track_in h.vertical (rows_of h)) 0
        (length (first_row (rows_of h))) ∙ ap (λ (p : Pruned). length p.first) lean

    -- what is kept then, and what goes, is what was kept, and what comes
    pub kept_laid : All (λ v. v < t.vertices) touched → IsDistinct eqb touched
        → sum_by (λ track. length track) (pruned h.vertical (laid_rows t h)).tracks + sum_by
        (λ v. length (track_of h.now.tracks v)) touched
        ≡ sum_by (λ track. length track) h.now.tracks + sum_by
        (λ v. length (track_in h.vertical (laid_rows t h) v)) touched
    kept_laid inside distinct =
        let g : List Entry → ℕ = λ track. length track in
        let f : ℕ → List Entry = track_in h.vertical (laid_rows t h) in
        let k : ℕ = t.vertices - vertices_of h in
        let xs : List (List Entry) = h.now.tracks ++ replicate k [] in
        let old = belongs.vertices in
        let long : length xs
        ≡ t.vertices = omega (
          arith,
          length-append h.now.tracks (replicate k []),
          length-replicate {A = List Entry} k [],
          tracks_count,
        ) in
        let put = drafted_list f [] h.now.tracks k long (λ v m none. untouched_track v m none) in
        let sums = sum_put g f [] touched xs
        (subst (λ n. All (λ v. v < n) touched) (sym long) inside) distinct in
        let all : sum_by g (put_all (placed f touched) xs)
        ≡ sum_by g (pruned h.vertical (laid_rows t h)).tracks = ap (sum_by g) put
        ∙ ap (λ n. sum_by g (map f (range_with_len 0 n))) (sym laid_wide) in
        let blank = sum_with_blanks g [] refl h.now.tracks k in
        let were : sum_by (λ v. g (get_or xs v [])) touched
        ≡ sum_by (λ v. length (track_of h.now.tracks v)) touched = λ i.
        sum_by (λ v. g (get_or-blanks h.now.tracks k v [] i)) touched in
        omega arith
