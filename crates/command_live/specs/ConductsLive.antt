-- What a call has done that is to read files and to write one of several texts.
use Rattle.std.specs.Prelude.{◌≡◌, ◌⊎◌, ℕ, ◌+◌, List, length, Option, Result, IfSome, IsErr}
use Rattle.batch_run.specs.Ahead.{IsReadStop}
use Rattle.batch_run.specs.Conducts.{World}
use Rattle.batch_steps.specs.Files.{Content, Named}
use Rattle.batch_steps.specs.Steps.{IsMade}
use Rattle.batch_steps.specs.declared.reply.Reply.{Reply}
use Rattle.command_files.specs.Files.{content}
use Rattle.command_files.specs.Reads.{Reads}
use Rattle.command_files.specs.Replied.{Gives}
use Rattle.command_files.specs.Stops.{BlamesShelf, BlamesSink}
use Rattle.command_files.specs.declared.stop.Stop.{Stop}

-- one of some replies was written: a part of its text, and with Ok all of it, and the number is its
-- status
pub record GivesOne (May : Reply → Type 0) (old new : Option (List ℕ)) (r : Result ℕ Stop)
    : Type 0 where
  pub reply : Reply
  pub may : May reply
  pub gives : Gives reply old new r

-- where the call stopped it may have written nothing
abbrev pub GivesOneOrNone : (Reply → Type 0) → Option (List ℕ) → Option (List ℕ) → Result ℕ Stop
    → Type 0
GivesOneOrNone May old new r = (IsErr r × (new ≡ old)) ⊎ GivesOne May old new r

-- a command that may give these replies, and reads these files before it writes
pub record ConductsLive (May : Content → Reply → Type 0) (files : Content → List Named) (most : ℕ)
    (slots : ℕ → ℕ) (old new : World) (r : Result ℕ Stop) : Type 0 where
  pub reply : IfSome old.told (λ t. GivesOneOrNone (May (content t)) old.written new.written r)
  pub reads : Reads files IsMade most slots old.told new.told old.opened new.opened r
  -- nothing is written before the last of the files was opened, nor where the reading stopped
  pub late : (new.written ≡ old.written)
      ⊎ IfSome old.told (λ t. new.opened ≡ old.opened + length (files (content t)))
  pub unread : IsReadStop r → new.written ≡ old.written
  pub shelf_cause : BlamesShelf r old.shelf_faults new.shelf_faults
  pub sink_cause : BlamesSink r old.sink_faults new.sink_faults
