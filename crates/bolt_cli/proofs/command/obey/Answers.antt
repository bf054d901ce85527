use Rattle.cli_words.specs.Words.{texts}
use Rattle.bolt_cli.proofs.PlaceSteps.{placed}
use Rattle.bolt_cli.proofs.command.obey.Goals as goal

pub run_command-requires-clause-place : goal.run_command-requires-clause-place
run_command-requires-clause-place g c κs within =
    (placed (texts c.args.words.now) c.args.command _ c.requires.command c.in-Run.is).0

pub run_command-requires-clause-graph_place : goal.run_command-requires-clause-graph_place
run_command-requires-clause-graph_place g c κs within =
    (placed (texts c.args.words.now) c.args.command _ c.requires.command c.in-Run.is).1

pub run_command-requires-clause-stream_place : goal.run_command-requires-clause-stream_place
run_command-requires-clause-stream_place g c κs within =
    (placed (texts c.args.words.now) c.args.command _ c.requires.command c.in-Run.is).2

pub once_command-requires-clause-place : goal.once_command-requires-clause-place
once_command-requires-clause-place g c κs within =
    (placed (texts c.args.words.now) c.args.command _ c.requires.command c.in-Once.is).0

pub once_command-requires-clause-graph_place : goal.once_command-requires-clause-graph_place
once_command-requires-clause-graph_place g c κs within =
    (placed (texts c.args.words.now) c.args.command _ c.requires.command c.in-Once.is).1

pub check_command-requires-clause-place : goal.check_command-requires-clause-place
check_command-requires-clause-place g c =
    placed (texts c.args.words.now) c.args.command _ c.requires.command c.in-Check.is
