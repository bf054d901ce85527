-- What a call has written.
use Rattle.std.specs.Prelude.{◌≡◌, ℕ, List, ◌++◌, Option, Result, IfSome, IfOk, OnOk}
use Rattle.bolt_io.specs.Told.{Told}
use Rattle.bolt_io.specs.Written.{Wrote, WrotePart}
use Rattle.batch_steps.specs.declared.reply.Reply.{Reply}
use Rattle.command_files.specs.declared.stop.Stop.{Stop}
use Rattle.batch_steps.specs.Files.{Content}
use Rattle.command_files.specs.Files.{content}

-- a prefix of the reply's text, and with Ok all of it, and the number is the reply's status
pub record Gives (reply : Reply) (old new : Option (List ℕ)) (r : Result ℕ Stop) : Type 0 where
  pub part : WrotePart old new reply.text
  pub whole : OnOk r (Wrote old new reply.text)
  pub status : IfOk r (λ status. status ≡ reply.status)

-- the same where the shelf tells its files, for the reply that follows from their content
abbrev pub Replied : (Content → Reply) → Option Told → Option (List ℕ) → Option (List ℕ)
    → Result ℕ Stop → Type 0
Replied reply told old new r = IfSome told (λ t. Gives (reply (content t)) old new r)

-- some text was written, and nothing that was written before changed
abbrev pub Appended : Option (List ℕ) → Option (List ℕ) → Type 0
Appended old new = (more : List ℕ) × Wrote old new more

-- this text was, and then some more or none
abbrev pub Leads : List ℕ → Option (List ℕ) → Option (List ℕ) → Type 0
Leads text old new = (more : List ℕ) × Wrote old new (text ++ more)
