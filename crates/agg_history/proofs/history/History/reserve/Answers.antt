use Rattle.std.proofs.Common.{refl, sym, ap, ◌∙◌, arith, Some, None}
use Rattle.agg_history.specs.Pruned.{HistoryState, vertices_of, pruned}
use Rattle.agg_history.specs.Belongs.{BelongsTo, laid_rows}
use Rattle.agg_history.specs.HistoryOf.{now_of}
use Rattle.agg_history.proofs.Grown.{IsGrown}
use Rattle.agg_history.proofs.GrownLemmas.{now_same, grown_history, grown_draft, next_is}
use Rattle.agg_history.proofs.HistoryIs.{vertices_is}
use Rattle.agg_history.proofs.history.History.reserve.Goals as goal

pub grow_first-requires-clause-more : goal.grow_first-requires-clause-more
grow_first-requires-clause-more c =
    let d = c.in_ok-draft.ensures in
    omega (
      arith,
      d.vertices,
      d.more,
      c.requires.belongs.vertices,
      vertices_is c.self.inside c.args.self.now c.self.view_is c.self.invariant,
    )

pub invariant_of-self-in_err-grow_tracks : goal.invariant_of-self-in_err-grow_tracks
invariant_of-self-in_err-grow_tracks c = grown_history c.self.inside _ c.self.invariant (record {
  vertical = refl;
  cut = refl;
  lanes = refl;
  vertices = refl;
  kept = refl;
  blanks = c.in_ok-grow_first.ensures.blanks.0;
  first = c.in_ok-grow_first.ensures.blanks.1;
  empties = c.in_err-grow_tracks.ensures.blanks.0;
  tracks = c.in_err-grow_tracks.ensures.blanks.1;
}) tt

pub invariant_of-self-2 : goal.invariant_of-self-2
invariant_of-self-2 c =
    let grown : IsGrown c.self.inside
    (record c.self.inside {
      first = c.grow_first.new.first;
      tracks = c.grow_tracks.new.tracks;
      draft = Some c.in_ok-draft.draft;
    }) = record {
      vertical = refl;
      cut = refl;
      lanes = refl;
      vertices = refl;
      kept = refl;
      blanks = c.in_ok-grow_first.ensures.blanks.0;
      first = c.in_ok-grow_first.ensures.blanks.1;
      empties = c.in_ok-grow_tracks.ensures.blanks.0;
      tracks = c.in_ok-grow_tracks.ensures.blanks.1;
    } in
    let belongs : BelongsTo c.args.overlay.now
    (record {
      vertical = c.self.inside.vertical;
      cut = c.self.inside.cut;
      lanes = c.self.inside.lanes;
      now = now_of c.self.inside;
      next = None;
    }) = record {
      vertices = c.requires.belongs.vertices
          ∙ ap (λ (h : HistoryState). vertices_of h) (sym c.self.view_is);
      lanes = c.requires.belongs.lanes ∙ ap (λ (h : HistoryState). h.lanes) (sym c.self.view_is);
      cut = c.requires.belongs.cut ∙ ap (λ (h : HistoryState). h.cut) (sym c.self.view_is);
    } in
    grown_history c.self.inside _ c.self.invariant grown
    (grown_draft c.self.inside _ c.self.invariant grown c.args.overlay.now c.in_ok-draft.draft
    c.in_ok-draft.ensures belongs c.requires.new c.in_ok-grow_first.ensures.ok
    c.in_ok-grow_tracks.ensures.ok)

pub returns-clause-ok : goal.returns-clause-ok
returns-clause-ok c =
    let grown : IsGrown c.self.inside
    (record c.self.inside {
      first = c.grow_first.new.first;
      tracks = c.grow_tracks.new.tracks;
      draft = Some c.in_ok-draft.draft;
    }) = record {
      vertical = refl;
      cut = refl;
      lanes = refl;
      vertices = refl;
      kept = refl;
      blanks = c.in_ok-grow_first.ensures.blanks.0;
      first = c.in_ok-grow_first.ensures.blanks.1;
      empties = c.in_ok-grow_tracks.ensures.blanks.0;
      tracks = c.in_ok-grow_tracks.ensures.blanks.1;
    } in
    let belongs : BelongsTo c.args.overlay.now
    (record {
      vertical = c.self.inside.vertical;
      cut = c.self.inside.cut;
      lanes = c.self.inside.lanes;
      now = now_of c.self.inside;
      next = None;
    }) = record {
      vertices = c.requires.belongs.vertices
          ∙ ap (λ (h : HistoryState). vertices_of h) (sym c.self.view_is);
      lanes = c.requires.belongs.lanes ∙ ap (λ (h : HistoryState). h.lanes) (sym c.self.view_is);
      cut = c.requires.belongs.cut ∙ ap (λ (h : HistoryState). h.cut) (sym c.self.view_is);
    } in
    ap Some (next_is c.self.inside _ c.self.invariant grown c.args.overlay.now c.in_ok-draft.draft
    c.in_ok-draft.ensures belongs c.requires.new c.in_ok-grow_first.ensures.ok
    c.in_ok-grow_tracks.ensures.ok
    ∙ ap (λ p. pruned c.self.inside.vertical
    (laid_rows c.args.overlay.now
    (record {
      vertical = c.self.inside.vertical;
      cut = c.self.inside.cut;
      lanes = c.self.inside.lanes;
      now = p;
      next = None;
    })))
    (sym (now_same c.self.inside _ c.self.invariant grown)))
