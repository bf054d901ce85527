use Rattle.std.proofs.Common.{◌≡◌, take}
use Rattle.run_model.specs.Rows.{answer}
use Rattle.engine_runs.proofs.answers.answer_of.Given as goal

abbrev pub invariant-loop-v : goal.invariant-loop-v
invariant-loop-v l = l.values ≡ take l.v (answer l.engine.program l.engine.now)
