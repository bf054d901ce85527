-- What the top call promises of `live`.
use Rattle.std.specs.Prelude.{◌≡◌, ◌⊎◌, ℕ, ◌+◌, List, length, Option, IfSome}
use Rattle.bolt_io.specs.Written.{Wrote, WrotePart}
use Rattle.batch_steps.specs.declared.reply.Reply.{Reply}
use Rattle.command_files.specs.Files.{content}
use Rattle.batch_run.specs.Conducts.{World}
use Rattle.command_live.specs.Words.{live_named, live_opened_with, live_read, IsLiveDecided}
use Rattle.command_live.specs.Words.{MayReply}
use Rattle.bolt_cli.specs.Ends.{Ends, IsOwn}

-- the whole text of one of some replies was written, and the status is its own
pub record WroteOne (May : Reply → Type 0) (old new : Option (List ℕ)) (status : ℕ) : Type 0 where
  pub reply : Reply
  pub may : May reply
  pub wrote : Wrote old new reply.text
  pub own : status ≡ reply.status

-- nothing was written, or a prefix of the text of one of them
abbrev pub WrotePartOfOne : (Reply → Type 0) → Option (List ℕ) → Option (List ℕ) → Type 0
WrotePartOfOne May old new =
    (new ≡ old) ⊎ ((reply : Reply) × May reply × WrotePart old new reply.text)

-- how the call for these words ends with a status
pub record AnswersLive (words : List (List ℕ)) (old new : World) (status : ℕ) : Type 0 where
  -- its status, 2 exactly where a word is wrong, and its files: none is opened with 2; else one for
  -- a program's file, one for a graph where the status isn't 3, and all streams and all files of
  -- questions where it is 0 or 1
  pub ends : Ends (IsLiveDecided words) (live_read words) (live_named words)
      (live_opened_with words) old new status
  -- whatever the status, a prefix was written of a text that words and files allow, or nothing;
  -- with a decided one all of such a text, and the status is its own
  pub part : IfSome old.told
      (λ t. WrotePartOfOne (MayReply words (content t)) old.written new.written)
  pub whole : IsOwn status → IfSome old.told
      (λ t. WroteOne (MayReply words (content t)) old.written new.written status)
  -- nothing was written before the last of the files was opened, nor with 5 and 8
  pub late : (new.written ≡ old.written)
      ⊎ IfSome old.told (λ t. new.opened ≡ old.opened + length (live_read words (content t)))
  pub unread : (status ≡ 5) ⊎ (status ≡ 8) → new.written ≡ old.written
