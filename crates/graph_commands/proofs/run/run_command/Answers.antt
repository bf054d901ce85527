use Rattle.std.proofs.lemmas.Result.{err_from_is_err_and}
use Rattle.std.proofs.Common.{◌≡◌, ◌+◌, ℕ}
use Rattle.batch_run.proofs.FinishSteps.{Conducts-stopped, Conducts-then}
use Rattle.batch_run.specs.Conducts.{world_of}
use Rattle.batch_run.specs.Opened.{course as course_of, EndsWith}
use Rattle.batch_steps.specs.Steps.{stream_slots}
use Rattle.bolt_io.specs.Told.{Told}
use Rattle.cli_words.specs.Words.{texts, word_at}
use Rattle.command_course.specs.Still.{both_files, graph_slots, program_count, run_course}
use Rattle.command_files.specs.Files.{content}
use Rattle.engine_stream.specs.Taken.{taken}
use Rattle.graph_commands.proofs.ReadSteps.{slots-end, told_at}
use Rattle.graph_commands.proofs.WordSteps.{Conducts-run, decided-run}
use Rattle.graph_commands.specs.Opened.{opened_slots}
use Rattle.report_text.specs.Runs.{Run, run_steps}
use Rattle.graph_commands.proofs.run.run_command.Goals as goal

pub returns-in_err-opened-clause-conducts : goal.returns-in_err-opened-clause-conducts
returns-in_err-opened-clause-conducts g c =
    let words = texts c.args.words.now in
    let w = c.args.program in
    let course = run_course words w c.args.graph c.args.stream c.args.options in
    let p = err_from_is_err_and c.from_residual.result c.from_residual.ensures.1 in
    rw (p.1, p.2)
    (Conducts-run words w c.args.graph c.args.stream c.args.options c.requires.command _ _ _
    (Conducts-stopped (λ (r : Run). r) taken run_steps
    (word_at words c.args.stream) course (both_files words w c.args.graph) (program_count w + 1)
    (opened_slots w) (λ (s : ℕ). program_count w + graph_slots s + stream_slots s)
    (g.S.Shelf.told c.args.shelf.now) (g.S.Shelf.opened c.args.shelf.now)
    (g.S.Shelf.faults c.args.shelf.now) (g.K.Sink.written c.args.out.now)
    (g.K.Sink.faults c.args.out.now)
    (g.S.Shelf.told c.open_command.new.shelf) (g.S.Shelf.opened c.open_command.new.shelf)
    (g.S.Shelf.faults c.open_command.new.shelf) c.in_err-opened.field-0.0
    c.in_err-opened.ensures.reads c.in_err-opened.ensures.reading
    c.in_err-opened.ensures.cause))

pub returns-clause-conducts : goal.returns-clause-conducts
returns-clause-conducts g c =
    let words = texts c.args.words.now in
    let w = c.args.program in
    let stream = word_at words c.args.stream in
    let course = run_course words w c.args.graph c.args.stream c.args.options in
    let named = rw c.word_at.ensures at c.finish_opened.ensures.conducts in
    let later = rw c.in_ok-opened.ensures.cause at named in
    let is =
    told_at (g.S.Shelf.told c.args.shelf.now) (λ (t : Told) (n : ℕ).
    course_of (λ (r : Run). r) run_steps (word_at words n) c.in_ok-opened.opened
    ≡ run_course words w c.args.graph n c.args.options (content t)) c.args.stream
    c.in_ok-opened.ensures.course in
    Conducts-run words w c.args.graph c.args.stream c.args.options c.requires.command _ _ _
    (Conducts-then (λ (r : Run). r) taken run_steps stream course
    (both_files words w c.args.graph) (program_count w + 1) (opened_slots w)
    (λ (s : ℕ). program_count w + graph_slots s + stream_slots s)
    (g.S.Shelf.told c.args.shelf.now) (g.S.Shelf.opened c.args.shelf.now)
    (g.S.Shelf.faults c.args.shelf.now) (g.K.Sink.written c.args.out.now)
    (g.K.Sink.faults c.args.out.now)
    (g.S.Shelf.told c.open_command.new.shelf) (g.S.Shelf.opened c.open_command.new.shelf)
    c.in_ok-opened.opened
    (world_of (g.S.Shelf.told c.finish_opened.new.shelf)
    (g.S.Shelf.opened c.finish_opened.new.shelf) (g.S.Shelf.faults c.finish_opened.new.shelf)
    (g.K.Sink.written c.finish_opened.new.out) (g.K.Sink.faults c.finish_opened.new.out))
    c.finish_opened.result c.in_ok-opened.ensures.reads is
    (slots-end w c.in_ok-opened.opened) later c.in_ok-opened.ensures.ready
    c.finish_opened.ensures.status)

pub returns-clause-decided : goal.returns-clause-decided
returns-clause-decided g c =
    decided-run (texts c.args.words.now) c.args.program c.args.graph c.args.stream
    c.args.options c.requires.command c.finish_opened.result
    (EndsWith c.in_ok-opened.opened) c.finish_opened.ensures.status
    c.in_ok-opened.ensures.ends
