-- A live run that was opened.
use Rattle.std.specs.Prelude.{◌≡◌, ℕ, false, length, List, Result, Ok, Err}
use Rattle.std.specs.List.{All}
use Rattle.bolt_base.specs.Graph.{vertices}
use Rattle.batch_steps.specs.Files.{Content}
use Rattle.batch_steps.specs.declared.reply.Reply.{Reply}
use Rattle.engine_runs.specs.State.{IsUnderWay}
use Rattle.live_course.specs.Made.{AreSound}
use Rattle.live_streams.specs.Texts.{questions_of, streams_of}
use Rattle.live_streams.specs.declared.texts.LiveTexts.{LiveTexts}
use Rattle.live_text.specs.Questions.{AreWithin}
use Rattle.live_words.specs.declared.command.LiveCommand.{LiveCommand}
use Rattle.report_text.specs.Runs.{Run, open_text, opened}
use Rattle.round_engine.specs.State.{EngineState}
use Rattle.run_model.specs.Program.{lanes}
use Rattle.live_opening.specs.Files.{ask_names, stream_names}
use Rattle.live_opening.specs.declared.engine.Begun.{Begun}
use Rattle.live_opening.specs.declared.live.LiveRun.{LiveRun}

-- the run of an engine before its first batch; values aren't shown
abbrev pub run_before : EngineState → Run
run_before e = opened e.program e.choice false e.now

-- the engine is that of a graph that was opened, and no batch was made
pub record IsOpened (e : EngineState) : Type 0 where
  pub ready : IsUnderWay e
  pub none_made : e.number ≡ 0
  pub began : e.opened ≡ vertices e.now

-- the opening lines are those of the engine
pub record IsBegun (b : Begun) : Type 0 where
  pub engine : IsOpened b.engine
  pub text : b.text ≡ open_text (run_before b.engine)

-- the run that was opened, or what refuses it
abbrev pub run_in : {A : Type 0} → (A → EngineState) → Result A Reply → Result Run Reply
run_in engine (Ok x) = Ok (run_before (engine x))
run_in engine (Err reply) = Err reply

-- what refused the program or the graph refuses the run, and the run itself is refused with
-- status 4
abbrev pub OpensRead : {A B : Type 0} → Result A Reply → Result B Reply → Type 0
OpensRead (Ok both) (Ok begun) = Unit {0}
OpensRead (Ok both) (Err reply) = reply.status ≡ 4
OpensRead (Err refusal) (Ok begun) = ⊥
OpensRead (Err refusal) (Err reply) = reply ≡ refusal

-- ---- with its streams and questions
-- what was read, of any files: batches that can be made, and questions to the lanes of the program;
-- as many as the command names files
pub record AreLiveTexts (command : LiveCommand) (lanes : ℕ) (texts : LiveTexts) : Type 0 where
  pub sound : AreSound texts.streams
  pub within : All (AreWithin lanes) texts.questions
  pub streams : length texts.streams ≡ length command.streams
  pub questions : length texts.questions ≡ length command.asks

-- what was read of these files
pub record AreTextsOf (words : List (List ℕ)) (command : LiveCommand) (lanes : ℕ) (c : Content)
    (texts : LiveTexts) : Type 0 where
  pub streams : texts.streams ≡ streams_of (stream_names words command) c
  pub questions : texts.questions ≡ questions_of lanes (ask_names words command) c

pub record IsLive (command : LiveCommand) (run : LiveRun) : Type 0 where
  pub engine : IsOpened run.engine
  pub text : run.text ≡ open_text (run_before run.engine)
  pub texts : AreLiveTexts command (lanes run.engine.program) run.texts
