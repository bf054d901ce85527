use Rattle.std.proofs.Common.{◌≡◌, Err, IfOk, subst, sym}
use Rattle.batch_steps.specs.declared.reply.Reply.{Reply}
use Rattle.cli_words.specs.declared.command.MakeForm.{MakeForm}
use Rattle.command_course.specs.Still.{IsMakeDecided}
use Rattle.made_runs.specs.Answered.{rank_run}
use Rattle.made_runs.specs.Rank.{rank_limits}
use Rattle.made_runs.proofs.MadeSteps.{IsRunStatus, if_ok, rank_decided}
use Rattle.made_runs.proofs.RankLimits.{made_within}
use Rattle.made_runs.proofs.making.make_reply.Goals as goal

pub run_made-requires-clause-good : goal.run_made-requires-clause-good
run_made-requires-clause-good g c κs within =
    c.in_ok-made.ensures.good rank_limits (made_within c.args.vertices c.args.pairs c.args.batches
    c.args.edits c.requires.range)

pub returns-in-Run-clause-status : goal.returns-in-Run-clause-status
returns-in-Run-clause-status g c =
    let options = c.in-Run.options in
    let graph = c.in_ok-made.made.graph in
    let batches = c.in_ok-made.made.batches in
    subst (λ (f : MakeForm). IfOk c.run_made.result (λ reply. IsMakeDecided f reply.status))
    (sym c.in-Run.is)
    (if_ok (λ (reply : Reply). rank_run options graph batches ≡ Err reply)
    (λ (reply : Reply). IsRunStatus reply.status)
    (λ reply is. rank_decided options graph batches reply is) c.run_made.result c.run_made.ensures)
