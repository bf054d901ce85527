use Rattle.std.proofs.Common.{◌≡◌, subst, false, Result}
use Rattle.std.specs.Prelude.{IfOk}
use Rattle.engine_runs.specs.declared.progress.OpenedRun.{OpenedRun}
use Rattle.engine_runs.specs.declared.progress.TooManyCells.{TooManyCells}
use Rattle.report_text.specs.Runs.{open_text, opened}
use Rattle.live_opening.proofs.EngineSteps.{engine-begun}
use Rattle.live_opening.proofs.engine.open_engine.Goals as goal

pub returns-in-Ok-clause-begun : goal.returns-in-Ok-clause-begun
returns-in-Ok-clause-begun g c =
    let run = opened c.args.accepted c.choice_of-choice.result false c.args.plain in
    let is =
    subst (λ (r : Result OpenedRun TooManyCells). IfOk r (λ o. o.run ≡ run)) c.in-Ok.is
    c.in_ok-text.ensures.run in
    let said =
    subst (λ (r : Result OpenedRun TooManyCells). IfOk r (λ o. o.text ≡ open_text run)) c.in-Ok.is
    c.in_ok-text.ensures.text in
    engine-begun c.args.accepted c.choice_of-choice.result c.args.plain c.in-Ok.field-0.run
    c.in-Ok.field-0.text c.into_engine.result is said c.into_engine.ensures.ready
    c.into_engine.ensures.run
