use Rattle.cli_words.specs.Words.{texts}
use Rattle.graph_commands.proofs.ReadSteps.{course-replied}
use Rattle.graph_commands.proofs.once.read_reply.Goals as goal

pub returns-clause-course : goal.returns-clause-course
returns-clause-course g c =
    course-replied (texts c.args.words.now) c.args.program c.args.graph c.args.options
    (g.S.Shelf.told c.args.shelf.now) c.in_ok-read.read c.in_ok-read.ensures.found _
    c.in_ok-reply_to.ensures.reply
