use Rattle.std.proofs.Common.{◌≡◌, ◌∙◌, List, [], Err, ap, map}
use Rattle.bolt_base.specs.declared.edge.Edit.{Edit}
use Rattle.batch_run.specs.Opened.{course}
use Rattle.batch_steps.specs.declared.reply.Reply.{Reply}
use Rattle.command_course.specs.Course.{Course}
use Rattle.command_course.specs.Still.{made_batch}
use Rattle.report_text.specs.Runs.{Run, run_steps}
use Rattle.made_runs.specs.Answered.{answered, rank_run}
use Rattle.made_runs.proofs.MadeSteps.{if_ok, rank_answers}
use Rattle.made_runs.proofs.making.run_made.Goals as goal

pub returns : goal.returns
returns g c =
    let options = c.args.options in
    let graph = c.args.made.graph in
    let batches = c.args.made.batches in
    let opened : Course = course (λ (r : Run). r) run_steps [] c.in_ok-opened.opened in
    if_ok (λ (reply : Reply). reply ≡ answered (map made_batch c.as_slice.result.now) opened)
    (λ (reply : Reply). rank_run options graph batches ≡ Err reply)
    (λ reply is. rank_answers options graph batches c.in-Ok.accepted opened reply
    (c.in_ok-accepted.ensures.program ∙ c.in-Ok.is) (c.in_ok-opened.ensures.course [])
    (is ∙ ap (λ (bs : List (List Edit)). answered (map made_batch bs) opened) c.as_slice.ensures))
    c.reply_to.result c.reply_to.ensures
