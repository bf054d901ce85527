use Rattle.std.proofs.Common.{rules, ◌≡◌, ◌∙◌, ◌+◌, List, sym, ap, subst}
use Rattle.bolt_base.specs.Edits.{after}
use Rattle.bolt_base.specs.declared.edge.Edit.{Edit}
use Rattle.graph_text.specs.declared.bad_line.BadLine.{BadLine}
use Rattle.run_model.specs.Logs.{answer_changes}
use Rattle.run_model.specs.Rows.{answer}
use Rattle.round_engine.specs.Prepared.{IsPreparedBy}
use Rattle.round_engine.specs.Preparing.{first_bad, prepared_state}
use Rattle.round_engine.specs.State.{EngineState}
use Rattle.round_journal.specs.Replays.{accepted, judged as judged_by}
use Rattle.round_journal.specs.declared.outcome.Outcome.{Outcome}
use Rattle.board.specs.Log.{round_of}
use Rattle.engine_runs.specs.Making.{committed, judged}
use Rattle.std.specs.Prelude.{None, Option}
use Rattle.live_works.specs.Beside.{HasMade, IsBeside, IsHeld, published}
use Rattle.live_works.proofs.Holding.{changes_told, committed_becomes, published_beside}
use Rattle.live_works.proofs.Holding.{round_goes_on, round_has_room}
use Rattle.live_works.proofs.making.make_batch.Goals as goal

pub hold-requires-clause-right : goal.hold-requires-clause-right
hold-requires-clause-right g c =
    let o = c.args.publisher.now in
    let e = c.args.engine.now in
    let edits = c.args.batch.now.edits in
    let r = round_of c.in-Ok-note_of.note in
    let is_t : c.prepare_batch.new.engine ≡ prepared_state e edits = search rules in
    let by : IsPreparedBy c.prepare_batch.new.engine c.in-Ok.prepared = search rules in
    let edited : r.edits ≡ edits = c.in-Ok-note_of.ensures.edits ∙ search rules in
    round_goes_on o e r c.requires.beside
    (c.in-Ok-note_of.ensures.changes
    ∙ changes_told e c.prepare_batch.new.engine edits c.in-Ok.prepared is_t by
    ∙ ap (λ (es : List Edit). answer_changes (answer e.program e.now)
    (answer e.program (after e.now es))) (sym edited))

pub hold-requires-clause-room : goal.hold-requires-clause-room
hold-requires-clause-room g c =
    let o = c.args.publisher.now in
    let e = c.args.engine.now in
    let edits = c.args.batch.now.edits in
    let r = round_of c.in-Ok-note_of.note in
    let is_t : c.prepare_batch.new.engine ≡ prepared_state e edits = search rules in
    let by : IsPreparedBy c.prepare_batch.new.engine c.in-Ok.prepared = search rules in
    let edited : r.edits ≡ edits = c.in-Ok-note_of.ensures.edits ∙ search rules in
    let fine : first_bad e edits ≡ None = search rules in
    round_has_room o e r c.requires.beside
    (c.in-Ok-note_of.ensures.changes
    ∙ changes_told e c.prepare_batch.new.engine edits c.in-Ok.prepared is_t by
    ∙ ap (λ (es : List Edit). answer_changes (answer e.program e.now)
    (answer e.program (after e.now es))) (sym edited)) c.graph-graph.ensures.good
    (ap (first_bad e) edited ∙ fine)

pub returns-in-Ok-hold-clause-outcome : goal.returns-in-Ok-hold-clause-outcome
returns-in-Ok-hold-clause-outcome g c =
    let e = c.args.engine.now in
    let b = c.args.batch.now in
    let is_t : c.prepare_batch.new.engine ≡ prepared_state e b.edits = search rules in
    let same : c.in-Ok.prepared.edits ≡ b.edits = search rules in
    let fine : judged e b ≡ None = search rules in
    let t = c.prepare_batch.new.engine in
    c.outcome_of.ensures
    ∙ committed_becomes e t b.edits c.commit-round.new.self.now c.commit-round.result is_t
    (c.commit-round.ensures.now ∙ ap (λ (es : List Edit). after t.now es) same)
    c.commit-round.ensures.number c.commit-round.ensures.added c.commit-round.ensures.removed
    c.commit-round.ensures.edges c.commit-round.ensures.kept c.commit-round.ensures.visits
    ∙ ap (λ (j : Option BadLine). judged_by j
    (accepted e.program e.choice (e.number + 1) e.now (after e.now b.edits))) (sym fine)

pub returns-in-Ok-hold-clause-made : goal.returns-in-Ok-hold-clause-made
returns-in-Ok-hold-clause-made g c =
    let o = c.args.publisher.now in
    let e = c.args.engine.now in
    let edits = c.args.batch.now.edits in
    let r = round_of c.in-Ok-note_of.note in
    let is_t : c.prepare_batch.new.engine ≡ prepared_state e edits = search rules in
    let by : IsPreparedBy c.prepare_batch.new.engine c.in-Ok.prepared = search rules in
    let edited : r.edits ≡ edits = c.in-Ok-note_of.ensures.edits ∙ search rules in
    let is_f : c.commit-round.new.self ≡ committed e edits = search rules in
    let changes = c.in-Ok-note_of.ensures.changes
    ∙ changes_told e c.prepare_batch.new.engine edits c.in-Ok.prepared is_t by
    ∙ ap (λ (es : List Edit). answer_changes (answer e.program e.now)
    (answer e.program (after e.now es))) (sym edited) in
    let held : IsHeld o c.hold.new.self c.commit-round.new.self edits = record {
      round = r;
      office = c.in-Ok-hold.ensures;
      edited = edited;
      beside = subst (λ (s : EngineState). IsBeside (published o r) s)
          (ap (committed e) edited ∙ sym is_f)
          (published_beside o e r c.requires.beside changes);
    } in
    subst (λ (x : Outcome). HasMade x o c.hold.new.self e c.commit-round.new.self edits)
    (sym c.outcome_of.ensures) (held, is_f)
