-- How commands go: step by step until something is refused.
use Rattle.std.specs.Prelude.{◌==◌, ℕ, List, if◌then◌else◌, Option, Some, None, Result, Ok, Err}
use Rattle.batch_steps.specs.declared.reply.Reply.{Reply}
use Rattle.batch_steps.specs.Course.{Opening}

-- a command replies at once, or has an opening and then reads a stream
abbrev pub Course : Type 0
Course = Result Opening Reply

abbrev pub replies : Reply → Course
replies reply = Err reply

abbrev pub opens : Opening → Course
opens opening = Ok opening

-- what was found so far, or the reply that refuses it, and what more is made of it
infixl 10 ◌>>=◌
abbrev pub ◌>>=◌ : {A B : Type 0} → Result A Reply → (A → Result B Reply) → Result B Reply
(Ok x) >>= f = f x
(Err reply) >>= f = Err reply

-- a text with its status
abbrev pub reply_with : ℕ → List ℕ → Reply
reply_with status text = record { text = text; status = status }

-- the reply of a command that refuses what it was given, which has a status of its own
abbrev pub refusal_by : Course → Option Reply
refusal_by (Ok opening) = None
refusal_by (Err reply) = if reply.status == 0 then None else Some reply
