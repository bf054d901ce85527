use Rattle.std.proofs.Common.{◌≡◌, List, ℕ, [], Result, Ok, Err, refl, ap}
use Rattle.std.proofs.lemmas.Result.{err_from_is_err_and}
use Rattle.batch_steps.specs.Steps.{stream_slots}
use Rattle.batch_steps.specs.Course.{opening_of}
use Rattle.batch_steps.specs.Files.{Content}
use Rattle.command_files.specs.declared.stop.Stop.{Stop}
use Rattle.batch_run.specs.Conducts.{world_of}
use Rattle.batch_run.proofs.StreamSteps.{Conducts-file}
use Rattle.batch_run.proofs.FinishSteps.{Conducts-unread}
use Rattle.report_text.specs.Runs.{run_steps}
use Rattle.engine_stream.proofs.stream.run_file.Goals as goal

pub returns-clause-conducts : goal.returns-clause-conducts
returns-clause-conducts g c =
    Conducts-file run_steps c.args.run c.args.stream.now
    (world_of (g.S.Shelf.told c.args.shelf.now) (g.S.Shelf.opened c.args.shelf.now)
    (g.S.Shelf.faults c.args.shelf.now) (g.K.Sink.written c.args.out.now)
    (g.K.Sink.faults c.args.out.now))
    (world_of (g.S.Shelf.told c.run_slot.new.shelf) (g.S.Shelf.opened c.run_slot.new.shelf)
    (g.S.Shelf.faults c.run_slot.new.shelf) (g.K.Sink.written c.run_slot.new.out)
    (g.K.Sink.faults c.run_slot.new.out))
    (g.S.Shelf.told c.open.new.shelf) (g.S.Shelf.opened c.open.new.shelf)
    (g.S.Shelf.faults c.open.new.shelf) c.in_ok-slot.slot _
    (g.met.S.Shelf.tells_slots c.args.shelf.now) c.in_ok-slot.ensures.slot c.in_ok-slot.ensures.told
    c.in_ok-slot.ensures.opened c.in_ok-slot.ensures.cause
    c.run_slot.ensures.streamed c.run_slot.ensures.appended c.run_slot.ensures.opened
    c.run_slot.ensures.short c.run_slot.ensures.end c.run_slot.ensures.too_long
    c.run_slot.ensures.made c.run_slot.ensures.shelf_cause c.run_slot.ensures.sink_cause

pub returns-in_err-slot-clause-conducts : goal.returns-in_err-slot-clause-conducts
returns-in_err-slot-clause-conducts g c =
    let p = err_from_is_err_and c.from_residual.result c.from_residual.ensures.1 in
    rw (p.1, p.2)
    (Conducts-unread (λ (d : Content). Ok
    (opening_of run_steps c.args.run [] c.args.stream.now))
    (λ (d : Content). []) 1 stream_slots
    (g.S.Shelf.told c.args.shelf.now) (g.S.Shelf.opened c.args.shelf.now)
    (g.S.Shelf.faults c.args.shelf.now) (g.K.Sink.written c.args.out.now)
    (g.K.Sink.written c.args.out.now) (g.K.Sink.faults c.args.out.now)
    (g.K.Sink.faults c.args.out.now)
    (g.S.Shelf.told c.open.new.shelf) (g.S.Shelf.opened c.open.new.shelf)
    (g.S.Shelf.faults c.open.new.shelf) _
    c.in_err-slot.ensures.untouched c.in_err-slot.ensures.none_opened
    (λ long. c.in_err-slot.ensures.no_length
    (ap (λ (x : Stop). let r : Result ℕ Stop = Err x in r) long)) c.in_err-slot.ensures.reading
    c.in_err-slot.ensures.cause)
