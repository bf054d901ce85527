-- What a board and an engine have in common, and what a batch makes of both.
use Rattle.std.specs.Prelude.{◌≡◌, ◌+◌, List, [], ◌∷◌, ◌++◌, length, Some, None}
use Rattle.bolt_base.specs.Edits.{after}
use Rattle.bolt_base.specs.Graph.{vertices, room}
use Rattle.bolt_base.specs.declared.edge.Edit.{Edit}
use Rattle.graph_text.specs.declared.batch_text.BatchText.{BatchText}
use Rattle.run_model.specs.Logs.{Round, log_edits}
use Rattle.round_engine.specs.State.{EngineState}
use Rattle.round_journal.specs.Replays.{outcome_on}
use Rattle.round_journal.specs.declared.outcome.Outcome.{Outcome}
use Rattle.round_journal.specs.declared.outcome.Outcome.TheVariants.{Accepted}
use Rattle.board.specs.Log.{IsRightLog}
use Rattle.board.specs.Post.{Office}
use Rattle.engine_runs.specs.Making.{committed}

-- the board began with the engine's program on the graph that the engine was opened with, it has
-- room for what that graph may grow to, its log is right, and the engine's graph is that graph
-- after the rounds of the log
pub record IsBeside (o : Office) (e : EngineState) : Type 0 where
  pub program : e.program ≡ o.origin.program
  pub opened : e.opened ≡ vertices o.origin.graph
  pub graph : e.now ≡ after o.origin.graph (log_edits o.log)
  pub number : e.number ≡ length o.log
  pub roomy : o.room ≡ room o.origin.program.limits (vertices o.origin.graph)
  pub right : IsRightLog o.origin o.log

-- what becomes of a batch on the engine's graph
abbrev pub becomes : EngineState → BatchText → Outcome
becomes e batch = outcome_on e.program e.opened e.choice (e.number + 1) e.now batch

-- the board once a round is published
abbrev pub published : Office → Round → Office
published o r = record o { log = o.log ++ r ∷ []; held = None }

-- a round of these edits is held, and once it is published the board stands beside the engine
pub record IsHeld (o new : Office) (e : EngineState) (edits : List Edit) : Type 0 where
  pub round : Round
  pub office : new ≡ record o { held = Some round }
  pub edited : round.edits ≡ edits
  pub beside : IsBeside (published o round) e

-- an accepted batch was committed and its round is held. A refused one changed nothing
abbrev pub HasMade : Outcome → Office → Office → EngineState → EngineState → List Edit → Type 0
HasMade (Accepted round added removed edges kept visits) o new e f edits =
    IsHeld o new f edits × (f ≡ committed e edits)
HasMade _ o new e f edits = (new ≡ o) × (f ≡ e)
