use Rattle.std.proofs.Common.{◌≡◌, sym, ap, ◌∙◌, subst, arith, length, take, Some, IfSome}
use Rattle.std.specs.List.{sum_by, zip}
use Rattle.std.specs.Option.{option_map}
use Rattle.std.proofs.lemmas.Option.{same_Some}
use Rattle.swaps.specs.Swaps.{put_all, places}
use Rattle.swaps.proofs.SwapLemmas.{length-put_all}
use Rattle.agg_history.specs.Entries.{Entries}
use Rattle.agg_history.specs.Pruned.{Pruned, HistoryState, rows_from, pruned}
use Rattle.agg_history.specs.Belongs.{laid_rows}
use Rattle.agg_history.specs.HistoryOf.{tracks_of, heads_of, next_of, IsDraft}
use Rattle.swaps.proofs.PutAllLemmas.{All-put_all}
use Rattle.agg_history.proofs.DraftLemmas.{laid_stands}
use Rattle.agg_history.proofs.HistoryIs.{cut_is}
use Rattle.agg_history.proofs.history.History.commit.Goals as goal

pub invariant_of-self-2 : goal.invariant_of-self-2
invariant_of-self-2 c =
    let d = c.in-Some.draft in
    let there : c.self.inside.draft ≡ Some d = sym c.take.ensures.value ∙ c.in-Some.is in
    let draft : IsDraft c.self.inside d = subst
    (λ o. IfSome o (IsDraft c.self.inside)) there c.self.invariant.draft in
    let heads = c.put_heads.ensures
    ∙ ap (λ lists. record c.self.inside.first {
      all = put_all (zip (places lists) d.heads.all)
          c.self.inside.first.all;
    }) c.deref.ensures.value in
    let now : record {
      first = take d.vertices c.put_heads.new.first.all;
      tracks = tracks_of d.vertices c.swap_in.new.all.items;
    } ≡ next_of c.self.inside d = λ i.
    record {
      first = take d.vertices (heads i).all;
      tracks = tracks_of d.vertices (c.swap_in.ensures.put i);
    } in
    record {
      some = c.self.invariant.some;
      narrow = c.self.invariant.narrow;
      short = c.self.invariant.short;
      firsts = omega (
        arith,
        ap (λ (e : Entries). length e.all) heads,
        length-put_all (heads_of d) c.self.inside.first.all,
        draft.firsts,
      );
      tracks = omega (arith, c.swap_in.ensures.length, draft.tracks);
      first_lanes = ap (λ (e : Entries). e.lanes) heads ∙ c.self.invariant.first_lanes;
      track_lanes = rw c.swap_in.ensures.put
          (All-put_all (λ (e : Entries). e.lanes ≡ c.self.inside.lanes) d.lists.items
          c.self.inside.tracks.items draft.track_lanes c.self.invariant.track_lanes);
      kept = draft.kept ∙ ap (λ (p : Pruned). sum_by (λ track. length track) p.tracks) (sym now);
      lean = ap (λ p. pruned c.self.inside.vertical (rows_from c.self.inside.cut p)) now
          ∙ draft.lean ∙ sym now;
      draft = subst (λ o.
          IfSome o (IsDraft
          (record {
            vertical = c.self.inside.vertical;
            cut = c.self.inside.cut;
            lanes = c.self.inside.lanes;
            vertices = d.vertices;
            kept = d.kept;
            first = c.put_heads.new.first;
            tracks = c.swap_in.new.all;
            draft = c.take.new.self;
          })))
          (sym c.take.ensures.after) tt;
    }

pub returns-clause-rows : goal.returns-clause-rows
returns-clause-rows c =
    let d = c.in-Some.draft in
    let there : c.self.inside.draft ≡ Some d = sym c.take.ensures.value ∙ c.in-Some.is in
    let heads = c.put_heads.ensures
    ∙ ap (λ lists. record c.self.inside.first {
      all = put_all (zip (places lists) d.heads.all)
          c.self.inside.first.all;
    }) c.deref.ensures.value in
    let now : record {
      first = take d.vertices c.put_heads.new.first.all;
      tracks = tracks_of d.vertices c.swap_in.new.all.items;
    } ≡ next_of c.self.inside d = λ i.
    record {
      first = take d.vertices (heads i).all;
      tracks = tracks_of d.vertices (c.swap_in.ensures.put i);
    } in
    let fits : next_of c.self.inside d
    ≡ pruned c.args.self.now.vertical (laid_rows c.args.overlay c.args.self.now) =
    same_Some _ _ (ap (option_map (next_of c.self.inside)) (sym there)
    ∙ ap (λ (h : HistoryState). h.next) c.self.view_is ∙ c.requires) in
    (λ i. rows_from (cut_is c.self.inside c.args.self.now c.self.view_is c.self.invariant i)
    (now i)) ∙ ap (rows_from c.args.self.now.cut) fits
    ∙ laid_stands c.args.overlay c.args.self.now
