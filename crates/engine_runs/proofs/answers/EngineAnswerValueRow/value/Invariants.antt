use Rattle.run_model.specs.Program.{number}
use Rattle.run_model.specs.Rows.{at, answer}
use Rattle.run_model.proofs.ByLane.{IsSoFar}
use Rattle.engine_runs.proofs.answers.EngineAnswerValueRow.value.Given as goal

abbrev pub invariant-loop-lane : goal.invariant-loop-lane
invariant-loop-lane l =
    IsSoFar (number (at (answer l.self.engine.now.program l.self.engine.now.now) l.v))
    l.lanes l.lane l.value
