-- The files of the command `live`.
use Rattle.std.specs.Prelude.{ℕ, ◌+◌, List, [], ◌++◌, codes, length, map, Result, Ok, Err}
use Rattle.std.specs.Option.{unwrap_or}
use Rattle.batch_steps.specs.Files.{Content, Named}
use Rattle.batch_steps.specs.declared.reply.Reply.{Reply}
use Rattle.cli_words.specs.Words.{behind, word_at}
use Rattle.cli_words.specs.declared.command.ProgramWord.{ProgramWord}
use Rattle.command_course.specs.Still.{both_files, graph_slots, program_count}
use Rattle.live_streams.specs.Texts.{whole_files}
use Rattle.live_words.specs.declared.command.LiveCommand.{LiveCommand}
use Rattle.live_opening.specs.Runs.{live_run}

-- ---- their names
-- the name of a file stands behind its option
abbrev pub name_behind : List ℕ → List (List ℕ) → ℕ → List ℕ
name_behind option words at = unwrap_or (behind option (word_at words at)) []

abbrev pub names_behind : List ℕ → List (List ℕ) → List ℕ → List (List ℕ)
names_behind option words places = map (name_behind option words) places

abbrev pub stream_names : List (List ℕ) → LiveCommand → List (List ℕ)
stream_names words command = names_behind (codes "--stream=") words command.streams

abbrev pub ask_names : List (List ℕ) → LiveCommand → List (List ℕ)
ask_names words command = names_behind (codes "--ask=") words command.asks

-- ---- how they are read
-- all streams and then all files of questions are read to their ends
abbrev pub text_files : List (List ℕ) → LiveCommand → Content → List Named
text_files words command c =
    whole_files (stream_names words command) c ++ whole_files (ask_names words command) c

-- they are read where nothing is refused
abbrev pub files_by : {A : Type 0} → Result A Reply → List (List ℕ) → LiveCommand → Content
    → List Named
files_by (Ok run) words command c = text_files words command c
files_by (Err reply) words command c = []

-- all files of the command, in order, each with how far it is read
abbrev pub live_files : List (List ℕ) → LiveCommand → Content → List Named
live_files words command c =
    both_files words command.program command.graph c
    ++ files_by (live_run words command c) words command c

-- ---- how many there are
abbrev pub text_count : LiveCommand → ℕ
text_count command = length command.streams + length command.asks

abbrev pub live_count : LiveCommand → ℕ
live_count command = program_count command.program + 1 + text_count command

-- how many were opened for a program and its graph: the graph's but where the program is refused
abbrev pub start_slots : {A : Type 0} → ProgramWord → Result A Reply → ℕ
start_slots w (Ok run) = program_count w + 1
start_slots w (Err reply) = program_count w + graph_slots reply.status

-- and for the command: all where its run was opened
abbrev pub live_slots : {A : Type 0} → LiveCommand → Result A Reply → ℕ
live_slots command (Ok run) = live_count command
live_slots command (Err reply) = program_count command.program + graph_slots reply.status
