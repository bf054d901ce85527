-- What a live run begins with, and what refuses it.
use Rattle.std.specs.Prelude.{◌≡◌, ◌⊎◌, ℕ, false, List, Option, Some, None, Result, Ok, Err}
use Rattle.bolt_base.specs.Graph.{Graph}
use Rattle.vertex_expr.specs.declared.program.ProgramEntries.{ProgramEntries}
use Rattle.batch_steps.specs.Files.{Content}
use Rattle.batch_steps.specs.declared.reply.Reply.{Reply}
use Rattle.cli_words.specs.Words.{word_at}
use Rattle.cli_words.specs.declared.command.RunOptions.{RunOptions}
use Rattle.command_course.specs.Course.{◌>>=◌}
use Rattle.command_course.specs.Openings.{choice_of, graph_for, run_on}
use Rattle.command_course.specs.Programs.{accepted_program}
use Rattle.command_opening.specs.Both.{Both}
use Rattle.live_words.specs.declared.command.LiveCommand.{LiveCommand}
use Rattle.report_text.specs.Runs.{Run}

-- the run of a program on a graph before its first batch, unless it needs too many cells; values
-- aren't shown
abbrev pub live_on : ProgramEntries → RunOptions → Graph → Result Run Reply
live_on p options g = run_on p (choice_of p options) false g

-- the run of a program and a graph, or what refused one of them
abbrev pub live_read : RunOptions → Result Both Reply → Result Run Reply
live_read options read = read >>= λ both. live_on both.0 options both.1

-- the run of the command: its program is judged first, then its graph, then the cells
abbrev pub live_run : List (List ℕ) → LiveCommand → Content → Result Run Reply
live_run words command c =
    accepted_program words command.program c >>= λ p.
    graph_for p (c (word_at words command.graph)) >>= λ g.
    live_on p command.options g

-- the reply that refuses it, if anything does
abbrev pub refusal_in : {A : Type 0} → Result A Reply → Option Reply
refusal_in (Ok x) = None
refusal_in (Err reply) = Some reply

abbrev pub live_refusal : List (List ℕ) → LiveCommand → Content → Option Reply
live_refusal words command c = refusal_in (live_run words command c)

-- a refusal's status: 3 where the program is refused, and 4 where the graph or the cells are
abbrev pub IsLiveRefusal : Reply → Type 0
IsLiveRefusal reply = (reply.status ≡ 3) ⊎ (reply.status ≡ 4)
