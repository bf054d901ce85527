use Rattle.cli_words.specs.Words.{texts}
use Rattle.live_opening.proofs.ReadSteps.{run-read, Reads-begun}
use Rattle.live_opening.proofs.start.begin.Goals as goal

pub returns-clause-run : goal.returns-clause-run
returns-clause-run g c =
    run-read (texts c.args.words.now) c.args.command.now (g.S.Shelf.told c.args.shelf.now)
    c.in_ok-read.read c.in_ok-read.ensures.found _ c.in_ok-open_read.ensures.run

pub returns-clause-reads : goal.returns-clause-reads
returns-clause-reads g c =
    Reads-begun (texts c.args.words.now) c.args.command.now.program c.args.command.now.graph
    (g.S.Shelf.told c.args.shelf.now) (g.S.Shelf.told c.read_both.new.shelf)
    (g.S.Shelf.opened c.args.shelf.now) (g.S.Shelf.opened c.read_both.new.shelf)
    c.in_ok-read.read c.in_ok-read.ensures.reads _ c.in_ok-open_read.ensures.read
