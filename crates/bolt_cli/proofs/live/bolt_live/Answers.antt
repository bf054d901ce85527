use Rattle.std.proofs.Common.{ℕ, sym, subst}
use Rattle.cli_words.specs.Words.{texts}
use Rattle.batch_run.specs.Conducts.{world_of}
use Rattle.bolt_cli.specs.AnswersLive.{AnswersLive}
use Rattle.bolt_cli.proofs.LiveSteps.{AnswersLive-ok, AnswersLive-err}
use Rattle.bolt_cli.proofs.live.bolt_live.Goals as goal

pub returns-in-Ok : goal.returns-in-Ok
returns-in-Ok g c =
    AnswersLive-ok (texts c.args.words.now)
    (world_of (g.S.Shelf.told c.args.shelf.now) (g.S.Shelf.opened c.args.shelf.now)
    (g.S.Shelf.faults c.args.shelf.now) (g.K.Sink.written c.args.out.now)
    (g.K.Sink.faults c.args.out.now))
    (world_of (g.S.Shelf.told c.live_or_stop.new.shelf)
    (g.S.Shelf.opened c.live_or_stop.new.shelf) (g.S.Shelf.faults c.live_or_stop.new.shelf)
    (g.K.Sink.written c.live_or_stop.new.out) (g.K.Sink.faults c.live_or_stop.new.out))
    c.in-Ok.status c.in-Ok.ensures.conducts c.in-Ok.ensures.decided

pub returns-in-Err : goal.returns-in-Err
returns-in-Err g c =
    let old =
    world_of (g.S.Shelf.told c.args.shelf.now) (g.S.Shelf.opened c.args.shelf.now)
    (g.S.Shelf.faults c.args.shelf.now) (g.K.Sink.written c.args.out.now)
    (g.K.Sink.faults c.args.out.now) in
    let new =
    world_of (g.S.Shelf.told c.live_or_stop.new.shelf)
    (g.S.Shelf.opened c.live_or_stop.new.shelf) (g.S.Shelf.faults c.live_or_stop.new.shelf)
    (g.K.Sink.written c.live_or_stop.new.out) (g.K.Sink.faults c.live_or_stop.new.out) in
    subst (λ (n : ℕ). AnswersLive (texts c.args.words.now) old new n) (sym c.status.ensures)
    (AnswersLive-err (texts c.args.words.now) old new c.in-Err.stop c.in-Err.ensures.conducts)
