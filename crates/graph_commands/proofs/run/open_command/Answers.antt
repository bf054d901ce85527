use Rattle.std.proofs.Common.{List, ℕ}
use Rattle.batch_run.specs.Opened.{course as course_of}
use Rattle.cli_words.specs.Words.{texts}
use Rattle.graph_commands.proofs.ReadSteps.{course-opened, ends-run, Reads-opened}
use Rattle.report_text.specs.Runs.{Run, run_steps}
use Rattle.graph_commands.proofs.run.open_command.Goals as goal

pub returns-clause-course : goal.returns-clause-course
returns-clause-course g c =
    course-opened (texts c.args.words.now) c.args.program c.args.graph c.args.options
    (g.S.Shelf.told c.args.shelf.now) c.in_ok-read.read c.in_ok-read.ensures.found
    (λ (stream : List ℕ). course_of (λ (r : Run). r) run_steps stream _)
    c.in_ok-open_read.ensures.course

pub returns-clause-ends : goal.returns-clause-ends
returns-clause-ends g c =
    ends-run c.in_ok-read.read _ c.in_ok-read.ensures.status c.in_ok-open_read.ensures.read

pub returns-clause-reads : goal.returns-clause-reads
returns-clause-reads g c =
    Reads-opened (texts c.args.words.now) c.args.program c.args.graph
    (g.S.Shelf.told c.args.shelf.now) (g.S.Shelf.told c.read_both.new.shelf)
    (g.S.Shelf.opened c.args.shelf.now) (g.S.Shelf.opened c.read_both.new.shelf)
    c.in_ok-read.read c.in_ok-read.ensures.reads _ c.in_ok-open_read.ensures.read
