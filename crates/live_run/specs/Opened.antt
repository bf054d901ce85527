-- A board that was opened beside an engine.
use Rattle.std.specs.Prelude.{◌≡◌, [], None}
use Rattle.bolt_base.specs.Graph.{room}
use Rattle.round_engine.specs.State.{EngineState}
use Rattle.board.specs.Log.{origin}
use Rattle.board.specs.Post.{Office}

-- the board begins with the engine's program on its graph, has room for what the graph that was
-- opened may grow to, and nothing was published
pub record IsOpenedBeside (e : EngineState) (o : Office) : Type 0 where
  pub begins : o.origin ≡ origin e.program e.now
  pub roomy : o.room ≡ room e.program.limits e.opened
  pub unpublished : o.log ≡ []
  pub free : o.held ≡ None
