-- Which words are the command `live`, and the first word that is wrong or missing where they
-- aren't.
use Rattle.std.specs.Prelude.{ℕ, Bool, true, if◌then◌else◌, List, codes, None, Result, Ok, Err}
use Rattle.std.specs.Str.{bytes_eq}
use Rattle.cli_words.specs.Words.{word_at, program_at, file_at, ◌>>=◌}
use Rattle.cli_words.specs.Options.{filled}
use Rattle.cli_words.specs.declared.command.ProgramWord.{ProgramWord}
use Rattle.cli_words.specs.declared.command.RunOptions.{RunOptions}
use Rattle.cli_words.specs.declared.command.WordsRefusal.{WordsRefusal}
use Rattle.live_words.specs.Options.{options_at}
use Rattle.live_words.specs.declared.command.LiveCommand.{LiveCommand}
use Rattle.live_words.specs.declared.options.LiveGiven.{LiveGiven}

-- the first word is `live`
abbrev pub is_live : List (List ℕ) → Bool
is_live words = bytes_eq (word_at words 1) (codes "live")

-- the options of the run, with what is taken where one isn't given
abbrev pub run_options : LiveGiven → RunOptions
run_options g = filled true
    (record { cut = g.cut; vertical = g.vertical; workers = g.workers; show = None })

abbrev pub command_with : ProgramWord → ℕ → LiveGiven → LiveCommand
command_with program graph g = record {
  program = program;
  graph = graph;
  streams = g.streams;
  asks = g.asks;
  options = run_options g;
}

-- live PROGRAM GRAPH, and options
abbrev pub live_line : List (List ℕ) → Result LiveCommand WordsRefusal
live_line words =
    program_at words 2 >>= λ program. file_at words 3 >>= λ graph.
    options_at words 4 >>= λ given. Ok (command_with program graph given)

-- the command of words, or the place of the first word that is wrong or missing
abbrev pub live_of : List (List ℕ) → Result LiveCommand WordsRefusal
live_of words = if is_live words then live_line words else Err (record { at = 1 })
