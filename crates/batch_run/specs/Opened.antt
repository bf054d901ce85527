-- What the opening of a command left.
use Rattle.std.specs.Prelude.{◌≡◌, ℕ, ◌≤◌, List, Result, Ok, Err}
use Rattle.batch_steps.specs.declared.reply.Reply.{Reply}
use Rattle.batch_steps.specs.Steps.{Steps, IsMade}
use Rattle.batch_steps.specs.Course.{Opening, opening_of}
use Rattle.batch_run.specs.declared.opened.Opened.{Opened}
use Rattle.batch_run.specs.declared.opened.Opened.TheVariants.{Refused, Runs}

-- as what is to be written and read then
abbrev pub course : {T S : Type 0} → (T → S) → Steps S → List ℕ → Opened T → Result Opening Reply
course state steps stream (Refused refusal) = Err refusal
course state steps stream (Runs text run) = Ok (opening_of steps (state run) text stream)

-- a refusal has a status of its own, and a run took no batch yet
abbrev pub IsReady : {T : Type 0} → (T → ℕ) → Opened T → Type 0
IsReady taken (Refused refusal) = 2 ≤ refusal.status
IsReady taken (Runs text run) = taken run ≡ 0

-- it is no refusal
abbrev pub IsRun : {T : Type 0} → Opened T → Type 0
IsRun (Refused refusal) = ⊥
IsRun (Runs text run) = Unit {0}

-- the status that it ends with: its own of a refusal, and else that of a run that was made
abbrev pub EndsWith : {T : Type 0} → Opened T → ℕ → Type 0
EndsWith (Refused refusal) status = status ≡ refusal.status
EndsWith (Runs text run) status = IsMade status
