use Rattle.std.proofs.Common.{IsTrue}
use Rattle.run_model.specs.Given.{IsWeightless}
use Rattle.sync_engine.proofs.tables.contributions.Goals as goal

pub returns-clause-shared : goal.returns-clause-shared
returns-clause-shared g c = λ (none : IsWeightless c.args.program.now).
    let t : IsTrue c.is_weightless.result = c.is_weightless.ensures.answer.1 none in
    cc (t, c.if-is_weightless.false)
