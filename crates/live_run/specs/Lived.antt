-- What a live run leaves.
use Rattle.std.specs.Prelude.{◌≡◌, List, length}
use Rattle.std.specs.List.{All}
use Rattle.bolt_base.specs.Graph.{Graph}
use Rattle.bolt_base.specs.declared.answer.Choice.{Choice}
use Rattle.vertex_expr.specs.declared.program.ProgramEntries.{ProgramEntries}
use Rattle.graph_text.specs.declared.batch_text.BatchText.{BatchText}
use Rattle.run_model.specs.Rows.{answer}
use Rattle.engine_runs.specs.State.{IsUnderWay}
use Rattle.live_text.specs.Lines.{IsDecided, IsTotal}
use Rattle.live_text.specs.declared.question.Question.{Question}
use Rattle.live_course.specs.Made.{IsMade, IsWhole, accepted, graph_after}
use Rattle.live_course.specs.Replied.{AllReplied, answer_after}
use Rattle.live_run.specs.declared.lived.Lived.{Lived}

-- A program was run on a graph over the batches of streams, while files of questions were asked.
-- The batches of each stream were made in order, each once; what became of each is what the
-- accepted ones before it make of it; each desk replied to its questions, never on an older prefix
-- than before, and at last on all accepted ones. The engine is that of the program on the graph
-- after the accepted batches, and no batch is prepared. No want of memory is listed, and each last
-- reply is a sum, so that all of it can be written.
pub record HasLived (p : ProgramEntries) (g : Graph) (c : Choice) (files : List (List BatchText))
    (questions : List (List Question)) (lived : Lived) : Type 0 where
  pub is_made : IsMade p g c files lived.made
  pub whole : IsWhole files lived.made
  pub replied : AllReplied p g (accepted files lived.made) questions lived.desks
  pub ready : IsUnderWay lived.engine
  pub program : lived.engine.program ≡ p
  pub choice : lived.engine.choice ≡ c
  pub graph : lived.engine.now ≡ graph_after g (accepted files lived.made)
  pub values : answer lived.engine.program lived.engine.now
      ≡ answer_after p g (accepted files lived.made) (length (accepted files lived.made))
  pub decided : All (λ e. IsDecided e.outcome) lived.made
  pub totals : All (λ d. IsTotal d.last.body) lived.desks
  pub desks : length lived.desks ≡ length questions
