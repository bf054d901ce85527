use Rattle.std.proofs.lemmas.Result.{err_from_is_err_and}
use Rattle.cli_words.specs.Words.{texts}
use Rattle.reply_commands.proofs.MakeSteps.{decided-make, made-replied, made-stopped}
use Rattle.reply_commands.proofs.make.make_command.Goals as goal

pub returns-in_err-reply-clause-conducts : goal.returns-in_err-reply-clause-conducts
returns-in_err-reply-clause-conducts g c =
    let p = err_from_is_err_and c.from_residual.result c.from_residual.ensures.1 in
    rw (p.1, p.2)
    (made-stopped (texts c.args.words.now) c.args.seed c.args.vertices c.args.pairs c.args.batches
    c.args.edits c.args.form c.requires.command (g.S.Shelf.told c.args._shelf.now)
    (g.S.Shelf.opened c.args._shelf.now) (g.S.Shelf.faults c.args._shelf.now)
    (g.K.Sink.written c.args.out.now) (g.K.Sink.written c.args.out.now)
    (g.K.Sink.faults c.args.out.now) (g.K.Sink.faults c.args.out.now))

pub returns-clause-conducts : goal.returns-clause-conducts
returns-clause-conducts g c =
    made-replied (texts c.args.words.now) c.args.seed c.args.vertices c.args.pairs c.args.batches
    c.args.edits c.args.form c.requires.command (g.S.Shelf.told c.args._shelf.now)
    (g.S.Shelf.opened c.args._shelf.now) (g.S.Shelf.faults c.args._shelf.now)
    (g.K.Sink.written c.args.out.now) (g.K.Sink.written c.put_reply.new.out)
    (g.K.Sink.faults c.args.out.now) (g.K.Sink.faults c.put_reply.new.out) c.in_ok-reply.reply
    c.put_reply.result c.in_ok-reply.ensures.course c.put_reply.ensures.gives
    c.put_reply.ensures.writing
    c.put_reply.ensures.cause

pub returns-clause-decided : goal.returns-clause-decided
returns-clause-decided g c =
    decided-make (texts c.args.words.now) c.args.seed c.args.vertices c.args.pairs c.args.batches
    c.args.edits c.args.form c.requires.command c.put_reply.result c.in_ok-reply.reply.status
    c.put_reply.ensures.status c.in_ok-reply.ensures.status
