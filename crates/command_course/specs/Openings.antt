-- How a run of a program is opened on a graph.
use Rattle.std.specs.Prelude.{ℕ, ◌+◌, ◌*◌, min, nat_lt, Bool, List, if◌then◌else◌, Result, Ok, Err}
use Rattle.std.specs.Option.{unwrap_or}
use Rattle.bolt_base.specs.Graph.{Graph, room, vertices}
use Rattle.bolt_base.specs.declared.answer.Choice.{Choice}
use Rattle.vertex_expr.specs.declared.program.ProgramEntries.{ProgramEntries}
use Rattle.graph_text.specs.GraphText.{graph_of}
use Rattle.graph_text.specs.declared.bad_line.BadLine.{BadLine}
use Rattle.run_model.specs.Program.{lanes}
use Rattle.batch_steps.specs.declared.reply.Reply.{Reply}
use Rattle.cli_words.specs.declared.command.RunOptions.{RunOptions}
use Rattle.report_text.specs.Refusals.{graph_refused, cells_refused}
use Rattle.report_text.specs.Runs.{Run, opened}
use Rattle.command_course.specs.Course.{reply_with}

-- the graph of a text under a program's limits, or its first bad line
abbrev pub or_bad_line : Result Graph BadLine → Result Graph Reply
or_bad_line (Ok g) = Ok g
or_bad_line (Err bad) = Err (reply_with 4 (graph_refused bad))

abbrev pub graph_for : ProgramEntries → List ℕ → Result Graph Reply
graph_for p text = or_bad_line (graph_of p.limits text)

-- how a program is run: where no cut is given it is 10, and one above the rounds counts as the
-- rounds
abbrev pub choice_of : ProgramEntries → RunOptions → Choice
choice_of p options = record {
  cut = min p.rounds (unwrap_or options.cut 10);
  vertical = options.vertical;
  workers = options.workers;
}

-- the cells that may come to be kept: one for each lane of each vertex to which a graph of n
-- vertices may grow, at each of the iterations 0 to the cut
abbrev pub cells_for : ProgramEntries → ℕ → ℕ → ℕ
cells_for p n cut = room p.limits n * lanes p * (cut + 1)

-- the most that there may be
abbrev pub most_cells : ℕ
most_cells = 67108864

-- the run before its first batch, unless it needs too many cells
abbrev pub unless_many : ℕ → Run → Result Run Reply
unless_many need run =
    if nat_lt most_cells need then Err (reply_with 4 (cells_refused need most_cells)) else Ok run

abbrev pub run_on : ProgramEntries → Choice → Bool → Graph → Result Run Reply
run_on p choice shows g =
    unless_many (cells_for p (vertices g) choice.cut) (opened p choice shows g)

abbrev pub run_for : ProgramEntries → RunOptions → Graph → Result Run Reply
run_for p options g = run_on p (choice_of p options) options.show g
