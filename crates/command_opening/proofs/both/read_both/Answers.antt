use Rattle.std.proofs.Common.{◌≡◌, Result, Ok, subst}
use Rattle.std.proofs.lemmas.Result.{err_from_is_err_and}
use Rattle.std.specs.Prelude.{IfErr, IfSome}
use Rattle.batch_steps.specs.declared.reply.Reply.{Reply}
use Rattle.cli_words.specs.Words.{texts}
use Rattle.command_course.specs.Programs.{accepted_program, program_files}
use Rattle.command_course.specs.Still.{program_count}
use Rattle.command_files.specs.Files.{content}
use Rattle.command_files.specs.Reads.{Reads}
use Rattle.command_files.specs.declared.stop.Stop.{Stop}
use Rattle.command_opening.proofs.BothSteps.{both-found, both-read, both-stopped}
use Rattle.command_opening.proofs.both.read_both.Goals as goal
use Rattle.std.specs.Prelude.{IsOk}
use Rattle.vertex_expr.specs.declared.program.ProgramEntries.{ProgramEntries}

pub returns-in_err-accepted-clause-reads : goal.returns-in_err-accepted-clause-reads
returns-in_err-accepted-clause-reads g c =
    let p = err_from_is_err_and c.from_residual.result c.from_residual.ensures.1 in
    rw (p.1, p.2)
    (both-stopped (texts c.args.words.now) c.args.program c.args.graph
    (g.S.Shelf.told c.args.shelf.now) (g.S.Shelf.opened c.args.shelf.now)
    (g.S.Shelf.told c.read_program.new.shelf) (g.S.Shelf.opened c.read_program.new.shelf)
    c.in_err-accepted.field-0.0 c.in_err-accepted.ensures.reads)

pub returns-in-Ok-clause-found : goal.returns-in-Ok-clause-found
returns-in-Ok-clause-found g c =
    let words = texts c.args.words.now in
    let told = g.S.Shelf.told c.args.shelf.now in
    let is =
    subst (λ (r : Result ProgramEntries Reply). IfSome told
    (λ t. accepted_program words c.args.program (content t) ≡ r)) c.in-Ok.is
    c.in_ok-accepted.ensures.program in
    both-found words c.args.program c.args.graph told (g.S.Shelf.opened c.args.shelf.now)
    (g.S.Shelf.told c.read_program.new.shelf) c.in_ok-accepted.ensures.reads.more
    c.in-Ok.accepted c.word_at.result.now c.with_graph.result
    c.in_ok-accepted.ensures.reads.told c.word_at.ensures is c.with_graph.ensures.found

pub returns-in-Ok-clause-reads : goal.returns-in-Ok-clause-reads
returns-in-Ok-clause-reads g c =
    let words = texts c.args.words.now in
    let told = g.S.Shelf.told c.args.shelf.now in
    let is =
    subst (λ (r : Result ProgramEntries Reply). IfSome told
    (λ t. accepted_program words c.args.program (content t) ≡ r)) c.in-Ok.is
    c.in_ok-accepted.ensures.program in
    let first =
    subst (λ (x : Result ProgramEntries Reply). Reads (program_files words c.args.program) IsOk
    (program_count c.args.program) (λ _. program_count c.args.program) told
    (g.S.Shelf.told c.read_program.new.shelf) (g.S.Shelf.opened c.args.shelf.now)
    (g.S.Shelf.opened c.read_program.new.shelf)
    (let r : Result (Result ProgramEntries Reply) Stop = Ok x in r)) c.in-Ok.is
    c.in_ok-accepted.ensures.reads in
    both-read words c.args.program c.args.graph told (g.S.Shelf.opened c.args.shelf.now)
    (g.S.Shelf.told c.read_program.new.shelf) (g.S.Shelf.told c.with_graph.new.shelf)
    (g.S.Shelf.opened c.read_program.new.shelf) (g.S.Shelf.opened c.with_graph.new.shelf)
    c.in-Ok.accepted c.word_at.result.now c.with_graph.result c.word_at.ensures is
    c.with_graph.ensures.status first c.with_graph.ensures.reads
