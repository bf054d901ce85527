use Rattle.std.proofs.Common.{rules, ◌≡◌, ◌∙◌, ap}
use Rattle.report_text.specs.Runs.{open_text}
use Rattle.round_engine.specs.Opening.{opened_state}
use Rattle.round_engine.specs.State.{EngineState}
use Rattle.engine_runs.specs.State.{run_of}
use Rattle.engine_runs.proofs.progress.open_run.Goals as goal

pub returns-in_ok-text-in-Ok-clause-text : goal.returns-in_ok-text-in-Ok-clause-text
returns-in_ok-text-in-Ok-clause-text g c =
    let is : c.in-Ok.engine ≡ opened_state c.args.accepted c.args.choice c.args.plain =
    search rules in
    c.in_ok-text-in-Ok.ensures
    ∙ ap (λ (s : EngineState). open_text (run_of s c.args.shows 0)) is
