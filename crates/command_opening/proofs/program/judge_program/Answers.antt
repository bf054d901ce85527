use Rattle.std.proofs.Common.{Ok}
use Rattle.cli_words.specs.Words.{texts}
use Rattle.command_opening.proofs.ProgramSteps.{shipped-reads}
use Rattle.command_opening.proofs.program.judge_program.Goals as goal

pub returns-in_ok-judge-clause-reads : goal.returns-in_ok-judge-clause-reads
returns-in_ok-judge-clause-reads g c =
    shipped-reads _ (texts c.args.words.now) c.args.program (g.S.Shelf.told c.args.shelf.now)
    (g.S.Shelf.opened c.args.shelf.now) _ c.if-program.false (λ is. cc)
