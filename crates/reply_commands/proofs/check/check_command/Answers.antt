use Rattle.std.proofs.Common.{ℕ, refl}
use Rattle.std.proofs.lemmas.Result.{err_from_is_err_and}
use Rattle.batch_steps.specs.Steps.{IsMade}
use Rattle.batch_steps.specs.declared.reply.Reply.{Reply}
use Rattle.cli_words.specs.Words.{texts}
use Rattle.command_course.specs.Programs.{program_files}
use Rattle.command_course.specs.Still.{check_course, program_count}
use Rattle.reply_commands.proofs.CheckSteps.{Conducts-check, decided-check}
use Rattle.batch_run.proofs.ReplySteps.{Conducts-replied, Conducts-unreplied}
use Rattle.reply_commands.proofs.check.check_command.Goals as goal

pub returns-in_err-reply-clause-conducts : goal.returns-in_err-reply-clause-conducts
returns-in_err-reply-clause-conducts g c =
    let words = texts c.args.words.now in
    let w = c.args.program in
    let p = err_from_is_err_and c.from_residual.result c.from_residual.ensures.1 in
    rw (p.1, p.2)
    (Conducts-check words w c.requires.command _ _ _
    (Conducts-unreplied (check_course words w) (program_files words w)
    (λ (reply : Reply). IsMade reply.status) (program_count w) (λ (reply : Reply). program_count w)
    (λ (s : ℕ). program_count w) (g.S.Shelf.told c.args.shelf.now)
    (g.S.Shelf.told c.read_reply.new.shelf) (g.S.Shelf.opened c.args.shelf.now)
    (g.S.Shelf.opened c.read_reply.new.shelf) (g.S.Shelf.faults c.args.shelf.now)
    (g.S.Shelf.faults c.read_reply.new.shelf) (g.K.Sink.written c.args.out.now)
    (g.K.Sink.written c.args.out.now) (g.K.Sink.faults c.args.out.now)
    (g.K.Sink.faults c.args.out.now) c.in_err-reply.field-0.0 c.in_err-reply.ensures.reads
    c.in_err-reply.ensures.reading c.in_err-reply.ensures.cause))

pub returns-clause-conducts : goal.returns-clause-conducts
returns-clause-conducts g c =
    let words = texts c.args.words.now in
    let w = c.args.program in
    Conducts-check words w c.requires.command _ _ _
    (Conducts-replied (check_course words w) (program_files words w)
    (λ (reply : Reply). IsMade reply.status) (program_count w) (λ (reply : Reply). program_count w)
    (λ (s : ℕ). program_count w) (g.S.Shelf.told c.args.shelf.now)
    (g.S.Shelf.told c.read_reply.new.shelf) (g.S.Shelf.opened c.args.shelf.now)
    (g.S.Shelf.opened c.read_reply.new.shelf) (g.S.Shelf.faults c.args.shelf.now)
    (g.S.Shelf.faults c.read_reply.new.shelf) (g.K.Sink.written c.args.out.now)
    (g.K.Sink.written c.put_reply.new.out) (g.K.Sink.faults c.args.out.now)
    (g.K.Sink.faults c.put_reply.new.out) c.in_ok-reply.reply c.put_reply.result
    c.in_ok-reply.ensures.reads c.in_ok-reply.ensures.course refl (λ made. made)
    c.put_reply.ensures.gives c.put_reply.ensures.status c.put_reply.ensures.writing
    c.in_ok-reply.ensures.cause c.put_reply.ensures.cause)

pub returns-clause-decided : goal.returns-clause-decided
returns-clause-decided g c =
    decided-check (texts c.args.words.now) c.args.program c.requires.command c.put_reply.result
    c.in_ok-reply.reply.status c.put_reply.ensures.status c.in_ok-reply.ensures.status
