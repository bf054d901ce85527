use Rattle.std.proofs.Common.{◌≡◌, ◌+◌, List, ℕ, Result, Ok, subst}
use Rattle.std.proofs.lemmas.Result.{err_from_is_err_and}
use Rattle.std.specs.Prelude.{IfSome, IsOk}
use Rattle.batch_steps.specs.Files.{Content}
use Rattle.batch_steps.specs.declared.reply.Reply.{Reply}
use Rattle.cli_words.specs.Words.{texts}
use Rattle.command_course.specs.Still.{both_files, program_count}
use Rattle.command_files.specs.Files.{content}
use Rattle.command_files.specs.Reads.{Reads}
use Rattle.command_files.specs.declared.stop.Stop.{Stop}
use Rattle.run_model.specs.Program.{lanes}
use Rattle.live_opening.specs.Begun.{run_before, run_in, AreTextsOf}
use Rattle.live_opening.specs.Files.{start_slots}
use Rattle.live_opening.specs.Runs.{live_run}
use Rattle.live_opening.specs.declared.engine.Begun.{Begun}
use Rattle.live_opening.proofs.TextSteps.{live-halted, live-read, live-stopped, told-before}
use Rattle.live_opening.proofs.live.open_live.Goals as goal

pub returns-in_err-begun-clause-reads : goal.returns-in_err-begun-clause-reads
returns-in_err-begun-clause-reads g c =
    let p = err_from_is_err_and c.from_residual.result c.from_residual.ensures.1 in
    rw (p.1, p.2)
    (live-stopped (texts c.args.words.now) c.args.command.now (g.S.Shelf.told c.args.shelf.now)
    (g.S.Shelf.opened c.args.shelf.now) (g.S.Shelf.told c.begin.new.shelf)
    (g.S.Shelf.opened c.begin.new.shelf) c.in_err-begun.field-0.0 c.in_err-begun.ensures.reads)

pub returns-in_err-with_texts-in-Ok-clause-reads :
    goal.returns-in_err-with_texts-in-Ok-clause-reads
returns-in_err-with_texts-in-Ok-clause-reads g c =
    let p =
    err_from_is_err_and c.from_residual-in_err-with_texts-in-Ok.result
    c.from_residual-in_err-with_texts-in-Ok.ensures.1 in
    let words : List (List ℕ) = texts c.args.words.now in
    let command = c.args.command.now in
    let told = g.S.Shelf.told c.args.shelf.now in
    let is =
    subst (λ (r : Result Begun Reply). IfSome told
    (λ t. live_run words command (content t) ≡ run_in (λ (b : Begun). b.engine) r)) c.in-Ok.is
    c.in_ok-begun.ensures.run in
    let first =
    subst (λ (r : Result Begun Reply). Reads (both_files words command.program command.graph) IsOk
    (program_count command.program + 1) (start_slots command.program) told
    (g.S.Shelf.told c.begin.new.shelf) (g.S.Shelf.opened c.args.shelf.now)
    (g.S.Shelf.opened c.begin.new.shelf)
    (let x : Result (Result Begun Reply) Stop = Ok r in x)) c.in-Ok.is
    c.in_ok-begun.ensures.reads in
    rw (p.1, p.2)
    (live-halted words command told (g.S.Shelf.opened c.args.shelf.now)
    (g.S.Shelf.told c.begin.new.shelf) (g.S.Shelf.told c.with_texts.new.shelf)
    (g.S.Shelf.opened c.begin.new.shelf) (g.S.Shelf.opened c.with_texts.new.shelf) c.in-Ok.begun
    (run_before c.in-Ok.begun.engine) is first c.in_err-with_texts-in-Ok.field-0.0
    c.in_err-with_texts-in-Ok.ensures.reads)

pub returns-in_ok-with_texts-in-Ok-clause-told : goal.returns-in_ok-with_texts-in-Ok-clause-told
returns-in_ok-with_texts-in-Ok-clause-told g c =
    let run = c.in_ok-with_texts-in-Ok.field-0 in
    told-before (λ (f : Content). AreTextsOf (texts c.args.words.now) c.args.command.now
    (lanes run.engine.program) f run.texts) (g.S.Shelf.told c.args.shelf.now)
    (g.S.Shelf.told c.begin.new.shelf) c.in_ok-begun.ensures.reads.more
    c.in_ok-begun.ensures.reads.told c.in_ok-with_texts-in-Ok.ensures.told

pub returns-in_ok-with_texts-in-Ok-clause-reads : goal.returns-in_ok-with_texts-in-Ok-clause-reads
returns-in_ok-with_texts-in-Ok-clause-reads g c =
    let words : List (List ℕ) = texts c.args.words.now in
    let command = c.args.command.now in
    let told = g.S.Shelf.told c.args.shelf.now in
    let is =
    subst (λ (r : Result Begun Reply). IfSome told
    (λ t. live_run words command (content t) ≡ run_in (λ (b : Begun). b.engine) r)) c.in-Ok.is
    c.in_ok-begun.ensures.run in
    let first =
    subst (λ (r : Result Begun Reply). Reads (both_files words command.program command.graph) IsOk
    (program_count command.program + 1) (start_slots command.program) told
    (g.S.Shelf.told c.begin.new.shelf) (g.S.Shelf.opened c.args.shelf.now)
    (g.S.Shelf.opened c.begin.new.shelf)
    (let x : Result (Result Begun Reply) Stop = Ok r in x)) c.in-Ok.is
    c.in_ok-begun.ensures.reads in
    live-read words command told (g.S.Shelf.opened c.args.shelf.now)
    (g.S.Shelf.told c.begin.new.shelf) (g.S.Shelf.told c.with_texts.new.shelf)
    (g.S.Shelf.opened c.begin.new.shelf) (g.S.Shelf.opened c.with_texts.new.shelf) c.in-Ok.begun
    (run_before c.in-Ok.begun.engine) is first c.in_ok-with_texts-in-Ok.field-0
    c.in_ok-with_texts-in-Ok.ensures.reads
