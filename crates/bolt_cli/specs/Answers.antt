-- What the top call promises of every command but `live`.
use Rattle.std.specs.Prelude.{◌≡◌, ◌⊎◌, ℕ, List, ◌++◌, length, take, drop, Option}
use Rattle.std.specs.Prelude.{IfSome, IfOk}
use Rattle.bolt_io.specs.Told.{Told}
use Rattle.bolt_io.specs.Written.{Wrote, WrotePart}
use Rattle.bolt_io.specs.declared.files.Slot.{Slot}
use Rattle.batch_steps.specs.Course.{Opening}
use Rattle.batch_steps.specs.Ended.{ended_batches}
use Rattle.batch_steps.specs.Files.{Content}
use Rattle.command_files.specs.Files.{content}
use Rattle.command_files.specs.Replied.{Leads}
use Rattle.batch_run.specs.Conducts.{World, Each}
use Rattle.command_course.specs.Still.{course, files_before, files_read, still, named, opened_with}
use Rattle.command_course.specs.Still.{IsDecided}
use Rattle.bolt_cli.specs.Ends.{Ends, IsOwn}

-- the slots of the stream among those that were opened, one or none, where nothing was refused
-- before it
abbrev pub OfStream : List (List ℕ) → List Slot → Option Told → (Opening → Content → Slot → Type 0)
    → Type 0
OfStream words more told P = IfSome told (λ t. IfOk (course words (content t)) (λ o.
    Each (P o (content t)) (drop (length (files_before words (content t))) more)))

-- how the call for these words ends with a status
pub record Answers (words : List (List ℕ)) (old new : World) (status : ℕ) : Type 0 where
  -- its status, 2 exactly where a word is wrong, and its files: none is opened with 2; else one for
  -- a program's file, one for a graph where the status isn't 3, and one for a stream where it is 0
  -- or 1
  pub ends : Ends (IsDecided words) (files_read words) (named words) (opened_with words) old new
      status
  -- whatever the status, a prefix of the text for the words was written; with a decided one all of
  -- it, and the status is its own
  pub part : IfSome old.told (λ t. WrotePart old.written new.written (still words (content t)).text)
  pub whole : IsOwn status → IfSome old.told
      (λ t. Wrote old.written new.written (still words (content t)).text)
  pub own : IsOwn status → IfSome old.told (λ t. status ≡ (still words (content t)).status)
  -- once the stream's slot was opened the opening text was written, and with 5 and 8 also what
  -- became of each batch that a `commit` ended in the bytes that were taken
  pub begun : OfStream words ends.more old.told (λ o _ _. Leads o.text old.written new.written)
  pub kept_up : (status ≡ 5) ⊎ (status ≡ 8) → OfStream words ends.more old.told (λ o c s.
      Leads (o.text ++ o.of_batches (ended_batches (take s.taken (c o.stream)))) old.written
      new.written)
