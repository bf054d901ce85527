-- A history with room for new vertices, and with a draft.
use Rattle.std.proofs.Common.{◌≡◌, ℕ, ◌<◌, List, [], ◌∷◌, ◌++◌, length, get_or, map, take}
use Rattle.std.proofs.Common.{replicate, None, refl, sym, ap, ◌∙◌, subst, arith, length-take}
use Rattle.std.proofs.Common.{length-append, IfSome}
use Rattle.std.specs.List.{All, sum_by, range_with_len, zip}
use Rattle.std.proofs.lemmas.List.{take_at, get_or_default, get_or-map, map-id, length-map}
use Rattle.std.proofs.lemmas.List.Elements.{All-append, All-take, All-replicate, All-same}
use Rattle.std.proofs.lemmas.List.Elements.{All-get_or, All-map, All-weaker, All-from_get_or}
use Rattle.swaps.specs.Swaps.{put_all, placed, places}
use Rattle.bolt_base.specs.Keep.{Entry, no_entry}
use Rattle.bolt_base.specs.RowTable.{entry_at}
use Rattle.agg_history.specs.Entries.{Entries}
use Rattle.agg_history.specs.Puts.{PutTable}
use Rattle.agg_history.specs.Pruned.{Pruned, HistoryState, rows_from, pruned}
use Rattle.agg_history.specs.HistoryOf.{tracks_of, now_of, next_of, heads_of, IsDraft, IsHistory}
use Rattle.agg_history.specs.Belongs.{BelongsTo, NewArePut, laid_rows}
use Rattle.agg_history.specs.Drafted.{IsDrafted, new_list, blank_entry}
use Rattle.agg_history.specs.declared.history.Draft.{Draft}
use Rattle.agg_history.specs.declared.history.History.TheInside.{Inside}
use Rattle.agg_history.proofs.Grown.{IsGrown}
use Rattle.agg_history.proofs.MakeLemmas.{track_cells, map_map, made_is}
use Rattle.agg_history.proofs.DraftLemmas.{laid_wide, laid_stands, untouched_old, untouched_track}
use Rattle.agg_history.proofs.DraftLemmas.{untouched_first, drafted_list}

module _ (h g : Inside) (ok : IsHistory h) (grown : IsGrown h g) where
  abbrev blank : Entries
  blank = record { lanes = h.lanes; all = [] }

  first_all : g.first.all ≡ take h.vertices h.first.all
      ++ replicate grown.blanks (blank_entry h.lanes)
  first_all = ap (λ (e : Entries). e.all) grown.first

  first_taken : take h.vertices g.first.all ≡ take h.vertices h.first.all
  first_taken = ap (take h.vertices) first_all
      ∙ take_at (take h.vertices h.first.all)
      (replicate grown.blanks (blank_entry h.lanes)) h.vertices (let f = ok.firsts in
      omega (arith, length-take h.vertices h.first.all))

  tracks_taken : take h.vertices g.tracks.items ≡ take h.vertices h.tracks.items
  tracks_taken = ap (take h.vertices) grown.tracks
      ∙ take_at (take h.vertices h.tracks.items) (replicate grown.empties blank) h.vertices
      (let f = ok.tracks in omega (arith, length-take h.vertices h.tracks.items))

  pub now_same : now_of g ≡ now_of h
  now_same = ap (λ n. record { first = take n g.first.all; tracks = tracks_of n g.tracks.items })
      grown.vertices
      ∙ (λ i. record {
        first = first_taken i;
        tracks = map (λ (c : Entries). c.all) (tracks_taken i);
      })

  pub grown_history : IfSome g.draft (IsDraft g) → IsHistory g
  grown_history draft =
      let v = grown.vertices in
      record {
        some = let a = ok.some in let l = grown.lanes in omega arith;
        narrow = let a = ok.narrow in let l = grown.lanes in omega arith;
        short = let a = ok.short in let l = grown.cut in omega arith;
        firsts = let f = ok.firsts in
            omega (
              arith,
              ap length first_all,
              length-append (take h.vertices h.first.all)
                  (replicate grown.blanks (blank_entry h.lanes)),
              length-take h.vertices h.first.all,
            );
        tracks = let f = ok.tracks in
            omega (
              arith,
              ap length grown.tracks,
              length-append (take h.vertices h.tracks.items) (replicate grown.empties blank),
              length-take h.vertices h.tracks.items,
            );
        first_lanes = ap (λ (e : Entries). e.lanes) grown.first ∙ ok.first_lanes ∙ sym grown.lanes;
        track_lanes = All-same (λ (e : Entries). e.lanes ≡ g.lanes) g.tracks.items
            (take h.vertices h.tracks.items ++ replicate grown.empties blank) grown.tracks
            (All-append (λ (e : Entries). e.lanes ≡ g.lanes) (take h.vertices h.tracks.items)
            (replicate grown.empties blank)
            (All-weaker (λ (e : Entries). e.lanes ≡ h.lanes) (λ (e : Entries). e.lanes ≡ g.lanes)
            (λ e p. p ∙ sym grown.lanes) (take h.vertices h.tracks.items)
            (All-take (λ (e : Entries). e.lanes ≡ h.lanes) h.vertices h.tracks.items
            ok.track_lanes))
            (All-replicate (λ (e : Entries). e.lanes ≡ g.lanes) grown.empties blank
            (sym grown.lanes)));
        kept = grown.kept ∙ ok.kept
            ∙ ap (λ (p : Pruned). sum_by (λ track. length track) p.tracks) (sym now_same);
        lean = (λ i. pruned (grown.vertical i) (rows_from (grown.cut i) (now_same i))) ∙ ok.lean
            ∙ sym now_same;
        draft = draft;
      }

  -- the history without a draft
  abbrev bare : HistoryState
  bare = record { vertical = h.vertical; cut = h.cut; lanes = h.lanes; now = now_of h; next = None }

  module _ (t : PutTable) (d : Draft) (drafted : IsDrafted t bare d) (belongs : BelongsTo t bare)
      (new : NewArePut t) (firsts : length g.first.all ≡ d.vertices)
      (tracks : length g.tracks.items ≡ d.vertices) where
    lists_are : d.lists.items
        ≡ placed (track_cells h.lanes h.vertical (laid_rows t bare)) drafted.touched
    lists_are = drafted.lists

    places_are : places d.lists.items ≡ drafted.touched
    places_are = ap (map (λ (list : ℕ × Entries). list.0)) drafted.lists
        ∙ map_map (λ (list : ℕ × Entries). list.0) (new_list t bare) drafted.touched
        ∙ map-id drafted.touched

    zip_placed : (f : ℕ → Entry) (vs : List ℕ) → zip vs (map f vs) ≡ placed f vs
    zip_placed f [] = refl
    zip_placed f (v ∷ vs) = ap (λ xs. (v, f v) ∷ xs) (zip_placed f vs)

    heads_are : heads_of d ≡ placed (entry_at (laid_rows t bare) 0) drafted.touched
    heads_are = (λ i. zip (places_are i) (drafted.heads i).all)
        ∙ zip_placed (entry_at (laid_rows t bare) 0) drafted.touched

    first_made : put_all (heads_of d) g.first.all
        ≡ map (entry_at (laid_rows t bare) 0) (range_with_len 0 t.vertices)
    first_made =
        let f : ℕ → Entry = entry_at (laid_rows t bare) 0 in
        let xs = take h.vertices h.first.all in
        (λ i. put_all (heads_are i) (first_all i))
        ∙ drafted_list t bare belongs new drafted.more drafted.touched drafted.others ok.lean f
        (blank_entry h.lanes) xs grown.blanks
        (sym (ap length first_all) ∙ firsts ∙ drafted.vertices)
        (λ v m none. let old =
        untouched_old t bare belongs new drafted.more drafted.touched drafted.others ok.lean v m
        none in
        get_or_default xs v (blank_entry h.lanes) no_entry old
        ∙ untouched_first t bare belongs new drafted.more drafted.touched drafted.others ok.lean
        v m none)

    old_track : (v : ℕ) → v < length (take h.vertices h.first.all)
        → v < length (take h.vertices h.tracks.items)
    old_track v l = let a = ok.firsts in let b = ok.tracks in
        omega (arith, length-take h.vertices h.first.all, length-take h.vertices h.tracks.items)

    tracks_made : put_all d.lists.items g.tracks.items
        ≡ map (track_cells h.lanes h.vertical (laid_rows t bare)) (range_with_len 0 t.vertices)
    tracks_made =
        let f : ℕ → Entries = track_cells h.lanes h.vertical (laid_rows t bare) in
        let xs = take h.vertices h.tracks.items in
        (λ i. put_all (drafted.lists i) (grown.tracks i))
        ∙ drafted_list t bare belongs new drafted.more drafted.touched drafted.others ok.lean f
        blank xs grown.empties (sym (ap length grown.tracks) ∙ tracks ∙ drafted.vertices)
        (λ v m none.
        let old = old_track v
        (untouched_old t bare belongs new drafted.more drafted.touched drafted.others ok.lean v
        m none) in
        let lanes : (get_or xs v blank).lanes
        ≡ h.lanes = All-get_or (λ (e : Entries). e.lanes ≡ h.lanes) xs v blank old
        (All-take (λ (e : Entries). e.lanes ≡ h.lanes) h.vertices h.tracks.items
        ok.track_lanes) in
        let all = sym (get_or-map (λ (e : Entries). e.all) xs v blank [] old)
        ∙ untouched_track t bare belongs new drafted.more drafted.touched drafted.others ok.lean
        v m none in
        λ i. record { lanes = lanes i; all = all i })

    pub next_is : next_of g d ≡ pruned h.vertical (laid_rows t bare)
    next_is =
        ap (λ n. record {
          first = take n (put_all (heads_of d) g.first.all);
          tracks = tracks_of n (put_all d.lists.items g.tracks.items);
        }) drafted.vertices
        ∙ made_is h.lanes t.vertices h.vertical (laid_rows t bare)
        (put_all (heads_of d) g.first.all) (put_all d.lists.items g.tracks.items)
        (laid_wide t bare) first_made tracks_made

    pub grown_draft : IsDraft g d
    grown_draft = record {
      firsts = firsts;
      tracks = tracks;
      inside = subst (λ n. All (λ (list : ℕ × Entries). list.0 < n) d.lists.items)
          (sym drafted.vertices)
          (All-same (λ (list : ℕ × Entries). list.0 < t.vertices) d.lists.items
          (map (new_list t bare) drafted.touched) drafted.lists
          (All-map (λ (list : ℕ × Entries). list.0 < t.vertices)
          (new_list t bare) drafted.touched drafted.inside));
      heads = ap (λ (e : Entries). length e.all) drafted.heads
          ∙ length-map drafted.touched (entry_at (laid_rows t bare) 0)
          ∙ sym (ap length drafted.lists ∙ length-map drafted.touched (new_list t bare));
      head_lanes = ap (λ (e : Entries). e.lanes) drafted.heads ∙ sym grown.lanes;
      track_lanes = All-same (λ (list : ℕ × Entries). list.1.lanes ≡ g.lanes) d.lists.items
          (map (new_list t bare) drafted.touched) drafted.lists
          (All-map (λ (list : ℕ × Entries). list.1.lanes ≡ g.lanes)
          (new_list t bare) drafted.touched
          (All-from_get_or (λ (v : ℕ). (new_list t bare v).1.lanes ≡ g.lanes) drafted.touched 0
          (λ k l. sym grown.lanes)));
      kept = drafted.kept
          ∙ ap (λ (p : Pruned). sum_by (λ track. length track) p.tracks) (sym next_is);
      lean = (λ i. pruned (grown.vertical i) (rows_from (grown.cut i) (next_is i)))
          ∙ ap (pruned h.vertical) (laid_stands t bare) ∙ sym next_is;
    }
