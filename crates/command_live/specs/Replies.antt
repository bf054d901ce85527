-- What `live` replies. Its text depends on how its threads meet: so there are many replies that it
-- may give, and it gives one of them.
use Rattle.std.specs.Prelude.{◌≡◌, ◌⊎◌, ℕ, zero, suc, ◌+◌, ◌≤◌, List, length, Result, Ok, Err}
use Rattle.std.specs.List.{All}
use Rattle.batch_steps.specs.Files.{Content}
use Rattle.batch_steps.specs.Steps.{IsMade}
use Rattle.batch_steps.specs.declared.reply.Reply.{Reply}
use Rattle.command_course.specs.Still.{graph_slots, program_count}
use Rattle.live_course.specs.Live.{LiveOk}
use Rattle.live_course.specs.Made.{AreSound}
use Rattle.live_opening.specs.Begun.{IsOpened, run_before}
use Rattle.live_opening.specs.Files.{ask_names, live_count, stream_names}
use Rattle.live_opening.specs.Runs.{live_run}
use Rattle.live_opening.specs.declared.live.LiveRun.{LiveRun}
use Rattle.live_streams.specs.Texts.{questions_of, streams_of}
use Rattle.live_text.specs.Questions.{AreWithin}
use Rattle.live_words.specs.declared.command.LiveCommand.{LiveCommand}
use Rattle.report_text.specs.Runs.{Run, open_text}
use Rattle.run_model.specs.Program.{lanes}

-- a reply of the run, if there is one: it makes the batches of the streams and answers the
-- questions; or else what refuses it
abbrev pub IsReplyOf : List (List ℕ) → LiveCommand → Content → Result Run Reply → Reply → Type 0
IsReplyOf words command c (Ok run) reply =
    LiveOk run.program run.graph run.choice (streams_of (stream_names words command) c)
    (questions_of (lanes run.program) (ask_names words command) c) reply
IsReplyOf words command c (Err refusal) reply = reply ≡ refusal

-- a reply that the command may give
abbrev pub MayGive : List (List ℕ) → LiveCommand → Content → Reply → Type 0
MayGive words command c reply = IsReplyOf words command c (live_run words command c) reply

-- its status: 3 where the program is refused, 4 where the graph is, and else 0, or 1 where a batch
-- is refused
abbrev pub IsOfLive : ℕ → Type 0
IsOfLive status = IsMade status ⊎ (status ≡ 3) ⊎ (status ≡ 4)

-- how many files were opened where it ended with such a status: with 0 or 1 all of them
abbrev pub slots_with : LiveCommand → ℕ → ℕ
slots_with command zero = live_count command
slots_with command (suc zero) = live_count command
slots_with command (suc (suc more)) =
    program_count command.program + graph_slots (suc (suc more))

-- ---- a run that was opened
-- its batches can be made, and its questions asked
pub record IsRunnable (run : LiveRun) : Type 0 where
  pub engine : IsOpened run.engine
  pub text : run.text ≡ open_text (run_before run.engine)
  pub sound : AreSound run.texts.streams
  pub within : All (AreWithin (lanes run.engine.program)) run.texts.questions
  pub few_streams : length run.texts.streams ≤ 16
  pub few_questions : length run.texts.questions ≤ 16

-- a reply of the run that was opened, or what refused it
abbrev pub IsReplyTo : Result LiveRun Reply → Reply → Type 0
IsReplyTo (Ok run) reply =
    LiveOk run.engine.program run.engine.now run.engine.choice run.texts.streams
    run.texts.questions reply
IsReplyTo (Err refusal) reply = reply ≡ refusal
