-- The text of a run that was made.
use Rattle.std.specs.Prelude.{◌≡◌, ℕ, false, List, Result, Ok, Err, IfOk}
use Rattle.std.proofs.Common.{ap, sym, ◌∙◌}
use Rattle.bolt_base.specs.Graph.{Graph}
use Rattle.bolt_base.specs.declared.answer.Choice.{Choice}
use Rattle.vertex_expr.specs.declared.program.ProgramEntries.{ProgramEntries}
use Rattle.graph_text.specs.declared.batch_text.BatchText.{BatchText}
use Rattle.batch_steps.specs.declared.reply.Reply.{Reply}
use Rattle.live_course.specs.Lines.{live_reply}
use Rattle.live_course.specs.Live.{LiveOk}
use Rattle.live_course.specs.declared.made.DeskReplies.{DeskReplies}
use Rattle.live_course.specs.declared.made.MadeEntry.{MadeEntry}
use Rattle.live_run.specs.Lived.{HasLived}
use Rattle.live_run.specs.declared.lived.Lived.{Lived}
use Rattle.live_text.specs.declared.question.Question.{Question}
use Rattle.report_text.specs.Runs.{open_text, opened}
use Rattle.run_model.specs.Program.{lanes}
use Rattle.run_model.specs.Rows.{answer}

module _ (p : ProgramEntries) (g : Graph) (c : Choice) (streams : List (List BatchText))
    (questions : List (List Question)) (lived : Lived)
    (h : HasLived p g c streams questions lived) where
  LiveOk-lived : (opening : List ℕ) (width : ℕ) (reply : Reply)
      → opening ≡ open_text (opened p c false g) → lanes lived.engine.program ≡ width
      → reply ≡ live_reply opening lived.made lived.desks width
      (answer lived.engine.program lived.engine.now)
      → LiveOk p g c streams questions reply
  LiveOk-lived opening width reply begun wide is =
      let width_is : width ≡ lanes p =
      sym wide ∙ ap lanes h.program in
      record {
        made = lived.made;
        desks = lived.desks;
        is_made = h.is_made;
        whole = h.whole;
        replied = h.replied;
        reply =
            is ∙ ap (λ (o : List ℕ). live_reply o lived.made lived.desks width
            (answer lived.engine.program lived.engine.now)) begun
            ∙ ap (λ (w : ℕ). live_reply (open_text (opened p c false g)) lived.made lived.desks w
            (answer lived.engine.program lived.engine.now)) width_is
            ∙ ap (live_reply (open_text (opened p c false g)) lived.made lived.desks (lanes p))
            h.values;
      }

  -- the text that was made of it
  pub LiveOk-text : {E : Type 0} (r : Result Reply E) (opening : List ℕ) (made : List MadeEntry)
      (desks : List DeskReplies) (width : ℕ) → opening ≡ open_text (opened p c false g)
      → made ≡ lived.made → desks ≡ lived.desks → lanes lived.engine.program ≡ width
      → IfOk r (λ reply. reply ≡ live_reply opening made desks width
      (answer lived.engine.program lived.engine.now))
      → IfOk r (LiveOk p g c streams questions)
  LiveOk-text (Ok reply) opening made desks width begun entries replies wide is =
      LiveOk-lived opening width reply begun wide
      (is ∙ ap (λ (m : List MadeEntry). live_reply opening m desks width
      (answer lived.engine.program lived.engine.now)) entries
      ∙ ap (λ (d : List DeskReplies). live_reply opening lived.made d width
      (answer lived.engine.program lived.engine.now)) replies)
  LiveOk-text (Err e) opening made desks width begun entries replies wide is = tt
