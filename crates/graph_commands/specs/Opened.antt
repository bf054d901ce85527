-- What the program and the graph of a command come to.
use Rattle.std.specs.Prelude.{◌≡◌, ◌⊎◌, ℕ, ◌+◌, List, Result, Ok, Err}
use Rattle.batch_run.specs.declared.opened.Opened.{Opened}
use Rattle.batch_run.specs.declared.opened.Opened.TheVariants.{Refused, Runs}
use Rattle.batch_steps.specs.Steps.{IsMade}
use Rattle.batch_steps.specs.declared.reply.Reply.{Reply}
use Rattle.cli_words.specs.declared.command.ProgramWord.{ProgramWord}
use Rattle.cli_words.specs.declared.command.RunOptions.{RunOptions}
use Rattle.command_course.specs.Course.{Course, ◌>>=◌, replies, reply_with}
use Rattle.command_course.specs.Still.{graph_slots, program_count}
use Rattle.command_opening.specs.Both.{Both}
use Rattle.report_text.specs.Runs.{once_text}
use Rattle.run_opening.specs.OnGraph.{opening_on, RefusesWith}

-- the run that goes over a stream of that name, or what refuses it
abbrev pub opening_read : RunOptions → Result Both Reply → List ℕ → Course
opening_read options read stream = read >>= λ both. opening_on both.0 options both.1 stream

-- what is written of running the program once
abbrev pub once_read : RunOptions → Result Both Reply → Course
once_read options read =
    read >>= λ both. replies (reply_with 0 (once_text both.0 options.show both.1))

-- how many files were opened for it
abbrev pub opened_slots : {T : Type 0} → ProgramWord → Opened T → ℕ
opened_slots w (Refused refusal) = program_count w + graph_slots refusal.status
opened_slots w (Runs text run) = program_count w + 1

-- what refused the reading refuses the run, and the run itself is refused with status 4
abbrev pub OpensRead : {T : Type 0} → Result Both Reply → Opened T → Type 0
OpensRead (Ok both) opened = RefusesWith 4 opened
OpensRead (Err reply) (Refused refusal) = refusal ≡ reply
OpensRead (Err reply) (Runs text run) = ⊥

-- what refused the reading is the reply, and else it has status 0
abbrev pub RepliesToRead : Result Both Reply → Reply → Type 0
RepliesToRead (Ok both) reply = reply.status ≡ 0
RepliesToRead (Err refusal) reply = reply ≡ refusal

-- the status of a refusal: that of a program, or of a graph
abbrev pub IsRefusal : Reply → Type 0
IsRefusal reply = (reply.status ≡ 3) ⊎ (reply.status ≡ 4)

-- a status of a run, or that of a refusal
abbrev pub IsOfRun : ℕ → Type 0
IsOfRun status = IsMade status ⊎ (status ≡ 3) ⊎ (status ≡ 4)

abbrev pub IsOfOnce : ℕ → Type 0
IsOfOnce status = (status ≡ 0) ⊎ (status ≡ 3) ⊎ (status ≡ 4)
