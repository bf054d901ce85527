use Rattle.std.proofs.lemmas.Result.{err_from_is_err_and}
use Rattle.cli_words.specs.Words.{texts}
use Rattle.live_opening.specs.Files.{live_count, live_files}
use Rattle.command_live.proofs.ReplySteps.{ConductsLive-replied, ConductsLive-unreplied}
use Rattle.command_live.specs.Replies.{slots_with, MayGive}
use Rattle.command_live.proofs.live.live_command.Goals as goal

pub returns-in_err-reply-clause-conducts : goal.returns-in_err-reply-clause-conducts
returns-in_err-reply-clause-conducts g c =
    let words = texts c.args.words.now in
    let command = c.args.command.now in
    let p = err_from_is_err_and c.from_residual.result c.from_residual.ensures.1 in
    rw (p.1, p.2)
    (ConductsLive-unreplied (MayGive words command) (live_files words command)
    (live_count command) (slots_with command) (g.S.Shelf.told c.args.shelf.now)
    (g.S.Shelf.told c.read_reply.new.shelf) (g.S.Shelf.opened c.args.shelf.now)
    (g.S.Shelf.opened c.read_reply.new.shelf) (g.S.Shelf.faults c.args.shelf.now)
    (g.S.Shelf.faults c.read_reply.new.shelf) (g.K.Sink.written c.args.out.now)
    (g.K.Sink.written c.args.out.now) (g.K.Sink.faults c.args.out.now)
    (g.K.Sink.faults c.args.out.now) c.in_err-reply.field-0.0 c.in_err-reply.ensures.reads
    c.in_err-reply.ensures.reading c.in_err-reply.ensures.cause)

pub returns-clause-conducts : goal.returns-clause-conducts
returns-clause-conducts g c =
    let words = texts c.args.words.now in
    let command = c.args.command.now in
    ConductsLive-replied (MayGive words command) (live_files words command)
    (live_count command) (slots_with command) (g.S.Shelf.told c.args.shelf.now)
    (g.S.Shelf.told c.read_reply.new.shelf) (g.S.Shelf.opened c.args.shelf.now)
    (g.S.Shelf.opened c.read_reply.new.shelf) (g.S.Shelf.faults c.args.shelf.now)
    (g.S.Shelf.faults c.read_reply.new.shelf) (g.K.Sink.written c.args.out.now)
    (g.K.Sink.written c.put_reply.new.out) (g.K.Sink.faults c.args.out.now)
    (g.K.Sink.faults c.put_reply.new.out) c.in_ok-reply.reply c.put_reply.result
    c.in_ok-reply.ensures.reads c.in_ok-reply.ensures.reply c.put_reply.ensures.gives
    c.put_reply.ensures.status c.put_reply.ensures.writing c.in_ok-reply.ensures.cause
    c.put_reply.ensures.cause
