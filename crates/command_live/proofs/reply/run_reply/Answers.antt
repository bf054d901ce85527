use Rattle.std.proofs.Common.{rules, arith, ◌≡◌, ◌∙◌, ◌<◌, ◌^◌, length, List, sym, subst}
use Rattle.std.specs.List.{All}
use Rattle.live_course.specs.declared.made.DeskReplies.{DeskReplies}
use Rattle.live_course.specs.declared.made.MadeEntry.{MadeEntry}
use Rattle.live_text.specs.Lines.{IsDecided, IsTotal}
use Rattle.run_model.proofs.RowLemmas.{values_whole}
use Rattle.run_model.specs.Program.{lanes}
use Rattle.command_live.proofs.LivedSteps.{LiveOk-text}
use Rattle.command_live.proofs.reply.run_reply.Goals as goal

pub live_reply-requires-clause-decided : goal.live_reply-requires-clause-decided
live_reply-requires-clause-decided g c =
    subst (λ (l : List MadeEntry). All (λ d. IsDecided d.outcome) l) (sym c.as_slice-2.ensures)
    c.in_ok-engine.ensures.decided

pub live_reply-requires-clause-few : goal.live_reply-requires-clause-few
live_reply-requires-clause-few g c =
    let h = rw (c.as_slice-questions.ensures) at c.in_ok-engine.ensures.desks in
    subst (λ (l : List DeskReplies). length l < 2 ^ 32) (sym c.as_slice-3.ensures)
    (omega (arith, h, c.requires.runnable.few_questions))

pub live_reply-requires-clause-totals : goal.live_reply-requires-clause-totals
live_reply-requires-clause-totals g c =
    subst (λ (l : List DeskReplies). All (λ d. IsTotal d.last.body) l) (sym c.as_slice-3.ensures)
    c.in_ok-engine.ensures.totals

pub live_reply-requires-clause-vertices : goal.live_reply-requires-clause-vertices
live_reply-requires-clause-vertices g c =
    let e = c.in_ok-engine.field-0.engine in
    c.vertices.ensures ∙ sym (values_whole e.program e.now e.program.rounds).each_vertex

pub live_reply-requires-clause-width : goal.live_reply-requires-clause-width
live_reply-requires-clause-width g c =
    let e = c.in_ok-engine.field-0.engine in
    let wide : lanes e.program ≡ c.len.result = search rules in
    λ k d inside. (values_whole e.program e.now e.program.rounds).each_lane k d inside ∙ wide

pub returns : goal.returns
returns g c =
    let e = c.args.run.engine in
    let lived = c.in_ok-engine.field-0 in
    let wide : lanes lived.engine.program ≡ c.len.result = search rules in
    let h = rw (c.as_slice-streams.ensures, c.as_slice-questions.ensures)
    at c.in_ok-engine.ensures in
    LiveOk-text e.program e.now e.choice c.args.run.texts.streams c.args.run.texts.questions
    lived h c.live_reply.result c.as_slice.result.now c.as_slice-2.result.now
    c.as_slice-3.result.now c.len.result
    (c.as_slice.ensures ∙ c.requires.runnable.text) c.as_slice-2.ensures c.as_slice-3.ensures wide
    c.live_reply.ensures
