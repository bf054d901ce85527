-- The program and the graph that words name.
use Rattle.std.specs.Prelude.{ℕ, ◌+◌, List, Result, Ok, Err}
use Rattle.bolt_base.specs.Graph.{Graph}
use Rattle.vertex_expr.specs.declared.program.ProgramEntries.{ProgramEntries}
use Rattle.batch_steps.specs.Files.{Content}
use Rattle.batch_steps.specs.declared.reply.Reply.{Reply}
use Rattle.cli_words.specs.Words.{word_at}
use Rattle.cli_words.specs.declared.command.ProgramWord.{ProgramWord}
use Rattle.command_course.specs.Course.{◌>>=◌}
use Rattle.command_course.specs.Openings.{graph_for}
use Rattle.command_course.specs.Programs.{accepted_program}
use Rattle.command_course.specs.Still.{graph_slots, program_count}

-- a program with its graph
abbrev pub Both : Type 0
Both = ProgramEntries × Graph

abbrev pub paired : ProgramEntries → Result Graph Reply → Result Both Reply
paired p (Ok g) = Ok (p, g)
paired p (Err reply) = Err reply

-- both, or the reply that refuses one of them
abbrev pub both_of : List (List ℕ) → ProgramWord → ℕ → Content → Result Both Reply
both_of words w graph c =
    accepted_program words w c >>= λ p. paired p (graph_for p (c (word_at words graph)))

-- how many files were opened for it: the graph's but where the program is refused
abbrev pub both_slots : ProgramWord → Result Both Reply → ℕ
both_slots w (Ok both) = program_count w + 1
both_slots w (Err reply) = program_count w + graph_slots reply.status
