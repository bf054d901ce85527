use Rattle.std.proofs.Common.{◌≡◌, [], Err, sym, arith}
use Rattle.cli_words.specs.Words.{texts}
use Rattle.command_files.specs.Files.{content}
use Rattle.command_files.proofs.ReadSteps.{told_all}
use Rattle.command_course.specs.Still.{words_reply, course, files_before, named, opened_with}
use Rattle.command_course.specs.Still.{IsDecided}
use Rattle.batch_run.proofs.FinishSteps.{Conducts-refused}
use Rattle.bolt_cli.proofs.WordSteps.{course-wrong, files_before-wrong, opened_with-wrong}
use Rattle.bolt_cli.proofs.WordSteps.{decided-wrong, ok_map}
use Rattle.bolt_cli.proofs.command.still.Goals as goal

pub returns-in-Err-clause-conducts : goal.returns-in-Err-clause-conducts
returns-in-Err-clause-conducts g c =
    let words = texts c.args.words.now in
    let told = g.S.Shelf.told c.args.shelf.now in
    let w = c.in-Err.refusal in
    let wrong = sym c.in-Err.ensures.command in
    Conducts-refused (course words) (files_before words) (named words) (opened_with words)
    told (g.S.Shelf.opened c.args.shelf.now) (g.S.Shelf.faults c.args.shelf.now)
    (g.K.Sink.written c.args.out.now) (g.K.Sink.written c.refuse_words.new.out)
    (g.K.Sink.faults c.args.out.now) (g.K.Sink.faults c.refuse_words.new.out)
    (words_reply w) _ (told_all (λ t. course words (content t) ≡ Err (words_reply w)) told
    (λ t. course-wrong words w wrong (content t)))
    (told_all (λ t. files_before words (content t) ≡ []) told
    (λ t. files_before-wrong words w wrong (content t)))
    c.refuse_words.ensures.gives c.refuse_words.ensures.status (omega arith)
    (λ s same. opened_with-wrong words w wrong s) c.refuse_words.ensures.writing
    c.refuse_words.ensures.cause

pub returns-in-Err-clause-decided : goal.returns-in-Err-clause-decided
returns-in-Err-clause-decided g c =
    let words = texts c.args.words.now in
    ok_map c.refuse_words.result (λ s. s ≡ 2) (IsDecided words)
    (λ s two. decided-wrong words c.in-Err.refusal (sym c.in-Err.ensures.command) s two)
    c.refuse_words.ensures.status
