use Rattle.std.proofs.Common.{◌≡◌, List, ℕ, [], Result, Ok, Err, refl}
use Rattle.std.proofs.lemmas.Result.{err_from_is_err_and}
use Rattle.graph_text.specs.StreamText.{batches}
use Rattle.batch_steps.specs.Steps.{stream_slots, rest_reply}
use Rattle.batch_steps.specs.Course.{opening_of}
use Rattle.batch_steps.specs.Files.{Content}
use Rattle.command_files.proofs.WriteSteps.{Replied-early}
use Rattle.batch_run.specs.Conducts.{world_of}
use Rattle.batch_run.proofs.FinishSteps.{Conducts-unopened, Conducts-behind}
use Rattle.report_text.specs.Runs.{run_steps}
use Rattle.engine_stream.proofs.stream.run_stream.Goals as goal

pub returns-clause-conducts : goal.returns-clause-conducts
returns-clause-conducts g c =
    Conducts-behind run_steps c.args.run c.args.text.now
    c.args.stream.now
    (g.S.Shelf.told c.args.shelf.now) (g.S.Shelf.opened c.args.shelf.now)
    (g.S.Shelf.faults c.args.shelf.now) (g.K.Sink.written c.args.out.now)
    (g.K.Sink.written c.put.new.out) (g.K.Sink.faults c.args.out.now)
    (world_of (g.S.Shelf.told c.run_file.new.shelf) (g.S.Shelf.opened c.run_file.new.shelf)
    (g.S.Shelf.faults c.run_file.new.shelf) (g.K.Sink.written c.run_file.new.out)
    (g.K.Sink.faults c.run_file.new.out)) _
    c.in_ok-put.ensures.all (rw c.in_ok-put.ensures.cause at c.run_file.ensures.conducts)

pub returns-in_err-put-clause-conducts : goal.returns-in_err-put-clause-conducts
returns-in_err-put-clause-conducts g c =
    let p = err_from_is_err_and c.from_residual.result c.from_residual.ensures.1 in
    rw (p.1, p.2)
    (Conducts-unopened (λ (d : Content). Ok
    (opening_of run_steps c.args.run c.args.text.now
    c.args.stream.now)) (λ (d : Content). []) 1 stream_slots
    (g.S.Shelf.told c.args.shelf.now) (g.S.Shelf.opened c.args.shelf.now)
    (g.S.Shelf.faults c.args.shelf.now) (g.K.Sink.written c.args.out.now)
    (g.K.Sink.written c.put.new.out) (g.K.Sink.faults c.args.out.now)
    (g.K.Sink.faults c.put.new.out) _
    c.in_err-put.ensures.writing.0 c.in_err-put.ensures.writing.1
    (Replied-early (g.S.Shelf.told c.args.shelf.now) (g.K.Sink.written c.args.out.now)
    (g.K.Sink.written c.put.new.out) c.args.text.now
    (λ (d : Content). rest_reply run_steps c.args.run
    (batches (d c.args.stream.now))) _ c.put.ensures.part)
    c.in_err-put.ensures.cause)
