-- What a history reads, and how much it keeps.
use Rattle.std.proofs.Common.{◌≡◌, ℕ, suc, ◌+◌, ◌*◌, ◌<◌, ◌≤◌, List, [], ◌∷◌, length, get_or}
use Rattle.std.proofs.Common.{take, min, sym, ap, ◌∙◌, arith, length-take}
use Rattle.std.specs.List.{sum_by}
use Rattle.std.proofs.lemmas.List.{get_or-take, get_or-map, length-map}
use Rattle.std.proofs.lemmas.List.Elements.{All-get_or, All-from_get_or}
use Rattle.std.proofs.lemmas.List.Sums.{sum_by-le}
use Rattle.bolt_base.specs.Keep.{Entry, no_entry, column, keep, kept, read}
use Rattle.bolt_base.specs.RowTable.{entry_at}
use Rattle.bolt_base.proofs.RowColumns.{length-column, made_at, made_length, keep_below}
use Rattle.bolt_base.proofs.RowColumns.{length-stored, sum_kept}
use Rattle.agg_history.specs.Entries.{Entries, entry_in}
use Rattle.agg_history.specs.Pruned.{Pruned, HistoryState, track_of, read_at, first_row, pruned}
use Rattle.agg_history.specs.Pruned.{rows_of, vertices_of}
use Rattle.agg_history.specs.HistoryOf.{history_of, now_of, IsHistory}
use Rattle.agg_history.specs.declared.history.History.TheInside.{Inside}
use Rattle.agg_history.proofs.PrunedLemmas.{pruned_track}

module _ (h : Inside) (t : HistoryState) (is : history_of h ≡ t) (ok : IsHistory h) where
  pub now_is : now_of h ≡ t.now
  now_is = ap (λ (x : HistoryState). x.now) is

  pub cut_is : h.cut ≡ t.cut
  cut_is = ap (λ (x : HistoryState). x.cut) is

  pub lanes_is : h.lanes ≡ t.lanes
  lanes_is = ap (λ (x : HistoryState). x.lanes) is

  pub vertical_is : h.vertical ≡ t.vertical
  vertical_is = ap (λ (x : HistoryState). x.vertical) is

  pub vertices_is : h.vertices ≡ vertices_of t
  vertices_is = let e : length (take h.vertices h.first.all)
      ≡ vertices_of t = ap (λ (p : Pruned). length p.first) now_is in let f = ok.firsts in
      omega (arith, length-take h.vertices h.first.all)

  pub lean_is : pruned t.vertical (rows_of t) ≡ t.now
  lean_is = ap (λ (x : HistoryState). pruned x.vertical (rows_of x)) (sym is) ∙ ok.lean ∙ now_is

  pub some_rows : 0 < length (rows_of t)
  some_rows = omega (arith, made_length (read_at t.now) (vertices_of t) (t.cut + 1))

  pub first_count : length (first_row (rows_of t)) ≡ vertices_of t
  first_count = ap (λ (p : Pruned). length p.first) lean_is

  pub kept_is : h.kept ≡ kept t.vertical (rows_of t) (vertices_of t)
  kept_is = ok.kept
      ∙ ap (λ (p : Pruned). sum_by (λ track. length track) p.tracks) (now_is ∙ sym lean_is)
      ∙ sum_kept t.vertical (rows_of t) (length (first_row (rows_of t))) some_rows
      ∙ ap (kept t.vertical (rows_of t)) first_count

  module _ (v : ℕ) (l : v < vertices_of t) where
    vertex_below : v < h.vertices
    vertex_below = omega (arith, vertices_is)

    pub first_below : v < length h.first.all
    first_below = let f = ok.firsts in omega (arith, vertices_is)

    pub track_below : v < length h.tracks.items
    track_below = let f = ok.tracks in omega (arith, vertices_is)

    pub first_is : entry_in h.first.all v ≡ entry_in t.now.first v
    first_is = sym (get_or-take h.vertices h.first.all v no_entry vertex_below)
        ∙ ap (λ (p : Pruned). entry_in p.first v) now_is

    pub track_is : (d : Entries) → (get_or h.tracks.items v d).all ≡ track_of t.now.tracks v
    track_is d =
        let below = track_below in
        let more = vertex_below in
        ap (λ (c : Entries). c.all) (sym (get_or-take h.vertices h.tracks.items v d vertex_below))
        ∙ sym (get_or-map (λ (c : Entries). c.all) (take h.vertices h.tracks.items) v d []
        (omega (arith, length-take h.vertices h.tracks.items)))
        ∙ ap (λ (p : Pruned). track_of p.tracks v) now_is

    pub track_wide : (d : Entries) → (get_or h.tracks.items v d).lanes ≡ t.lanes
    track_wide d = All-get_or
        (λ (c : Entries). c.lanes ≡ h.lanes) h.tracks.items v d track_below ok.track_lanes
        ∙ lanes_is

    pub read_is : (i : ℕ) → i ≤ t.cut
        → entry_at (rows_of t) i v ≡ read (entry_in t.now.first v) (track_of t.now.tracks v) i
    read_is i m = made_at (read_at t.now) (vertices_of t) (t.cut + 1) i v (omega arith) l

    pub length_is : length (track_of t.now.tracks v) ≡ keep t.vertical (column (rows_of t) v)
    length_is =
        ap (λ (p : Pruned). length (track_of p.tracks v)) (sym lean_is)
        ∙ ap length (pruned_track t.vertical (rows_of t) v (omega (arith, first_count)))
        ∙ length-stored t.vertical (column (rows_of t) v)
        (omega (arith, length-column (rows_of t) v, some_rows))

    pub length_short : length (track_of t.now.tracks v) ≤ t.cut
    length_short =
        let k = keep_below t.vertical (column (rows_of t) v)
        (omega (arith, length-column (rows_of t) v, some_rows)) in
        omega (
          arith,
          length_is,
          length-column (rows_of t) v,
          made_length (read_at t.now) (vertices_of t) (t.cut + 1),
        )

  pub sum_is : h.kept ≡ sum_by (λ track. length track) t.now.tracks
  sum_is = ok.kept ∙ ap (λ (p : Pruned). sum_by (λ track. length track) p.tracks) now_is

  pub tracks_count : length t.now.tracks ≡ vertices_of t
  tracks_count = let m = ok.tracks in
      let e : length (now_of h).tracks
      ≡ length t.now.tracks = ap (λ (p : Pruned). length p.tracks) now_is in
      omega (
        arith,
        vertices_is,
        length-map (take h.vertices h.tracks.items) (λ (c : Entries). c.all),
        length-take h.vertices h.tracks.items,
      )

  pub kept_few : h.kept ≤ vertices_of t * t.cut
  kept_few =
      let le = sum_by-le (λ (track : List Entry). length track) t.cut t.now.tracks
      (All-from_get_or (λ (track : List Entry). length track ≤ t.cut) t.now.tracks []
      (λ v l. length_short v (omega (arith, tracks_count)))) in
      let e = ap (λ n. n * t.cut) tracks_count in omega (arith, sum_is)

-- ---- a read entry by its place
pub read_first : (first : Entry) (track : List Entry) (i : ℕ) → min i (length track) ≡ 0
    → read first track i ≡ first
read_first first track i e = ap (λ n. get_or (first ∷ track) n no_entry) e

pub read_later : (first : Entry) (track : List Entry) (i k : ℕ) → min i (length track) ≡ suc k
    → read first track i ≡ entry_in track k
read_later first track i k e = ap (λ n. get_or (first ∷ track) n no_entry) e
