use Rattle.std.proofs.Common.{◌≡◌, ◌≤◌, ℕ, List, [], Result, Err, refl, sym, ap}
use Rattle.batch_steps.specs.declared.reply.Reply.{Reply}
use Rattle.batch_steps.specs.Steps.{stream_slots}
use Rattle.batch_steps.specs.Course.{Opening}
use Rattle.batch_steps.specs.Files.{Content}
use Rattle.command_files.specs.Files.{content}
use Rattle.command_files.proofs.ReadSteps.{told_all}
use Rattle.batch_run.proofs.FinishSteps.{Conducts-refused, no_stream}
use Rattle.engine_stream.proofs.finish.finish_opened.Goals as goal

pub returns-in-Refused-clause-conducts : goal.returns-in-Refused-clause-conducts
returns-in-Refused-clause-conducts g c =
    let told = g.S.Shelf.told c.args.shelf.now in
    let refusal : Reply = c.in-Refused.refusal in
    let own = rw c.in-Refused.is at c.requires.ready in
    rw c.in-Refused.is
    (Conducts-refused (λ (d : Content). Err refusal) (λ (d : Content). []) 1 stream_slots told
    (g.S.Shelf.opened c.args.shelf.now) (g.S.Shelf.faults c.args.shelf.now)
    (g.K.Sink.written c.args.out.now) (g.K.Sink.written c.put_reply.new.out)
    (g.K.Sink.faults c.args.out.now) (g.K.Sink.faults c.put_reply.new.out)
    refusal _ (told_all (λ t. let x : Result Opening Reply = Err refusal in x ≡ Err refusal) told
    (λ t. refl)) (told_all _ told (λ t. refl))
    c.put_reply.ensures.gives c.put_reply.ensures.status own
    (λ s same. no_stream s refusal.status same own) c.put_reply.ensures.writing
    c.put_reply.ensures.cause)

pub returns-in-Runs-clause-conducts : goal.returns-in-Runs-clause-conducts
returns-in-Runs-clause-conducts g c =
    rw c.in-Runs.is (rw c.as_slice.ensures at c.run_stream.ensures.conducts)
