-- What a live run is to write.
use Rattle.std.specs.Prelude.{◌≡◌, false, length, List}
use Rattle.bolt_base.specs.Graph.{Graph}
use Rattle.bolt_base.specs.declared.answer.Choice.{Choice}
use Rattle.vertex_expr.specs.declared.program.ProgramEntries.{ProgramEntries}
use Rattle.graph_text.specs.declared.batch_text.BatchText.{BatchText}
use Rattle.run_model.specs.Program.{lanes}
use Rattle.batch_steps.specs.declared.reply.Reply.{Reply}
use Rattle.live_text.specs.declared.question.Question.{Question}
use Rattle.report_text.specs.Runs.{open_text, opened}
use Rattle.live_course.specs.declared.made.DeskReplies.{DeskReplies}
use Rattle.live_course.specs.declared.made.MadeEntry.{MadeEntry}
use Rattle.live_course.specs.Made.{IsMade, IsWhole, accepted}
use Rattle.live_course.specs.Replied.{AllReplied, answer_after}
use Rattle.live_course.specs.Lines.{live_reply}

-- Batches were made and desks replied. The batches of each stream were made in order, each once;
-- what became of each is what the accepted ones before it make of it; each desk replied to its
-- questions, never on an older prefix than before, and at last on all accepted ones. The text is
-- that of what was made, behind the opening of a run, and the status is 1 where a batch was
-- refused, and else 0.
pub record LiveOk (p : ProgramEntries) (g : Graph) (c : Choice) (files : List (List BatchText))
    (questions : List (List Question)) (written : Reply) : Type 0 where
  pub made : List MadeEntry
  pub desks : List DeskReplies
  pub is_made : IsMade p g c files made
  pub whole : IsWhole files made
  pub replied : AllReplied p g (accepted files made) questions desks
  pub reply : written ≡ live_reply (open_text (opened p c false g)) made desks (lanes p)
      (answer_after p g (accepted files made) (length (accepted files made)))
