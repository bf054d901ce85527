-- The round of a prepared batch follows on the log of a board beside its engine.
use Rattle.std.proofs.Common.{◌≡◌, ◌+◌, ◌≤◌, List, [], ◌∷◌, ◌++◌, length, None}
use Rattle.std.proofs.Common.{refl, sym, ap, ◌∙◌, subst, arith, length-append}
use Rattle.std.proofs.lemmas.List.{append-nil, take_all}
use Rattle.std.proofs.lemmas.List.Concat.{flat_map-append}
use Rattle.std.proofs.lemmas.List.Sums.{fold-append}
use Rattle.bolt_base.specs.Edits.{after, edited}
use Rattle.bolt_base.specs.Change.{added, removed}
use Rattle.bolt_base.specs.Graph.{Graph, IsGood, edges, vertices, within}
use Rattle.bolt_base.specs.declared.edge.Edit.{Edit}
use Rattle.bolt_base.proofs.AfterLemmas.{no_vertex_lost}
use Rattle.bolt_base.proofs.GoodLemmas.{good_after}
use Rattle.vertex_expr.specs.declared.program.ProgramEntries.{ProgramEntries}
use Rattle.run_model.specs.Logs.{Round, answer_changes, log_edits, with_changes}
use Rattle.run_model.specs.Rows.{answer}
use Rattle.run_model.specs.Kept.{kept}
use Rattle.run_model.specs.Visits.{visits}
use Rattle.run_model.proofs.LogLemmas.{changes_make_new}
use Rattle.run_model.proofs.RowLemmas.{values_whole}
use Rattle.round_engine.specs.Prepared.{IsPreparedBy}
use Rattle.round_engine.specs.Preparing.{first_bad, prepared_state}
use Rattle.round_engine.specs.State.{EngineState}
use Rattle.round_engine.specs.declared.prepared.Prepared.{Prepared}
use Rattle.round_engine.specs.declared.round.Round.{Round as Committed}
use Rattle.round_journal.specs.Replays.{accepted}
use Rattle.round_journal.specs.declared.outcome.Outcome.TheVariants.{Accepted}
use Rattle.board.specs.Log.{GoesOn, HasRoomFor, shows}
use Rattle.board.specs.Post.{Office}
use Rattle.board.proofs.Going.{right_log_goes_on}
use Rattle.engine_runs.specs.Making.{committed}
use Rattle.live_works.specs.Beside.{IsBeside, published}

-- the changes that a prepared batch tells
pub changes_told : (e s : EngineState) (edits : List Edit) (x : Prepared) → s ≡ prepared_state e
    edits
    → IsPreparedBy s x
    → x.changes ≡ answer_changes (answer e.program e.now) (answer e.program (after e.now edits))
changes_told e s edits x is by =
    let p : IsPreparedBy (prepared_state e edits) x =
    subst (λ (t : EngineState). IsPreparedBy t x) is by in
    (p.leads (after e.now edits) refl).told

module _ (o : Office) (e : EngineState) (r : Round) (beside : IsBeside o e)
    (changes : r.changes
    ≡ answer_changes (answer e.program e.now) (answer e.program (after e.now r.edits))) where
  abbrev p : ProgramEntries
  p = o.origin.program

  abbrev g : Graph
  g = after o.origin.graph (log_edits o.log)

  shown_now : shows o.origin o.log ≡ answer p g
  shown_now =
      beside.right (length o.log) (let le : length o.log ≤ length o.log = omega arith in le)
      ∙ ap (λ (xs : List Round). answer p (after o.origin.graph (log_edits xs)))
      (take_all (length o.log) o.log (let le : length o.log ≤ length o.log = omega arith in le))

  changes_here : r.changes ≡ answer_changes (answer p g) (answer p (after g r.edits))
  changes_here = changes
      ∙ (λ i. answer_changes (answer (beside.program i) (beside.graph i))
      (answer (beside.program i) (after (beside.graph i) r.edits)))

  answer_grows : length (answer p g) ≤ length (answer p (after g r.edits))
  answer_grows =
      let a = (values_whole p g p.rounds).each_vertex in
      let b = (values_whole p (after g r.edits) p.rounds).each_vertex in
      let more = no_vertex_lost g r.edits in
      omega arith

  pub round_goes_on : GoesOn o.origin o.log r
  round_goes_on =
      (λ i. with_changes (shown_now i) (changes_here i))
      ∙ changes_make_new (answer p g) (answer p (after g r.edits)) answer_grows

  -- the new graph has at most as many vertices as there is room for
  pub round_has_room : IsGood (within e.program.limits e.opened) e.now
      → first_bad e r.edits ≡ None → HasRoomFor o.origin o.room o.log r
  round_has_room good fine =
      let next = (good_after (within e.program.limits e.opened) e.now r.edits good
      fine).few_vertices
      in
      let many = (values_whole p (after g r.edits) p.rounds).each_vertex in
      let long = ap length round_goes_on in
      let same : vertices (after e.now r.edits) ≡ vertices (after g r.edits) =
      ap (λ (h : Graph). vertices (after h r.edits)) beside.graph in
      let bound : (within e.program.limits e.opened).vertices ≡ o.room =
      (λ i. (within (beside.program i).limits (beside.opened i)).vertices) ∙ sym beside.roomy in
      omega arith

  edits_come_after : after o.origin.graph (log_edits (o.log ++ r ∷ [])) ≡ after g r.edits
  edits_come_after =
      ap (after o.origin.graph)
      (flat_map-append (λ (x : Round). x.edits) o.log (r ∷ [])
      ∙ ap (λ es. log_edits o.log ++ es) (append-nil r.edits))
      ∙ fold-append edited o.origin.graph (log_edits o.log) r.edits

  pub published_beside : IsBeside (published o r) (committed e r.edits)
  published_beside =
      let long = length-append o.log (r ∷ []) in
      let many = beside.number in
      record {
        program = beside.program;
        opened = beside.opened;
        graph = ap (λ (h : Graph). after h r.edits) beside.graph ∙ sym edits_come_after;
        number = omega arith;
        roomy = beside.roomy;
        right = right_log_goes_on o.origin o.log r beside.right round_goes_on;
      }

-- a committed batch has become what it becomes of an accepted one
pub committed_becomes : (e t : EngineState) (edits : List Edit) (h : Graph) (x : Committed)
    → t ≡ prepared_state e edits → h ≡ after t.now edits → x.number ≡ t.number + 1
    → x.added ≡ length (added t.now h) → x.removed ≡ length (removed t.now h)
    → x.edges ≡ length (edges h) → x.kept ≡ kept t.choice.vertical t.program h t.choice.cut
    → x.visits ≡ visits t.program t.now h t.choice.cut
    → Accepted x.number x.added x.removed x.edges x.kept x.visits
    ≡ accepted e.program e.choice (e.number + 1) e.now (after e.now edits)
committed_becomes e t edits h x is_t is_h number more fewer all stay read =
    let to : h ≡ after e.now edits = is_h ∙ ap (λ (s : EngineState). after s.now edits) is_t in
    let n : x.number ≡ e.number + 1 = number ∙ ap (λ (s : EngineState). s.number + 1) is_t in
    let a : x.added ≡ length (added e.now (after e.now edits)) =
    more ∙ (λ i. length (added (is_t i).now (to i))) in
    let r : x.removed ≡ length (removed e.now (after e.now edits)) =
    fewer ∙ (λ i. length (removed (is_t i).now (to i))) in
    let m : x.edges ≡ length (edges (after e.now edits)) = all ∙ ap
    (λ (g : Graph). length (edges g)) to in
    let k : x.kept ≡ kept e.choice.vertical e.program (after e.now edits) e.choice.cut =
    stay ∙ (λ i. kept (is_t i).choice.vertical (is_t i).program (to i) (is_t i).choice.cut) in
    let v : x.visits ≡ visits e.program e.now (after e.now edits) e.choice.cut =
    read ∙ (λ i. visits (is_t i).program (is_t i).now (to i) (is_t i).choice.cut) in
    λ i. Accepted (n i) (a i) (r i) (m i) (k i) (v i)
