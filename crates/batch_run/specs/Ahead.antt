-- How far a run has come in writing its reply.
use Rattle.std.specs.Prelude.{◌≡◌, ◌⊎◌, ℕ, ◌<◌, ◌≤◌, List, ◌++◌, length, take, Option}
use Rattle.std.specs.Prelude.{Result, IfSome, IsErrOf}
use Rattle.std.specs.Option.{option_map}
use Rattle.bolt_io.specs.Told.{Told}
use Rattle.bolt_io.specs.Written.{Wrote}
use Rattle.bolt_io.specs.declared.whole.TheConstants.{MOST_BYTES}
use Rattle.text_lines.specs.Feed.{Feed, NeedsMore, Advances, readable}
use Rattle.text_lines.specs.Reading.{IsSpent}
use Rattle.graph_text.specs.StreamText.{batches}
use Rattle.graph_text.specs.BatchCode.{batches_ahead, batches_within}
use Rattle.batch_steps.specs.declared.reply.Reply.{Reply}
use Rattle.batch_steps.specs.Steps.{Steps, prepend, rest_reply, batch_texts}
use Rattle.batch_steps.specs.Ended.{ended_batches}
use Rattle.command_files.specs.declared.stop.Stop.{Stop}
use Rattle.command_files.specs.declared.stop.Stop.TheVariants.{ShelfFailed, SinkFailed, Memory}
use Rattle.command_files.specs.declared.stop.Stop.TheVariants.{TooLong}
use Rattle.command_files.specs.Replied.{Gives, Leads}

-- what is still to be written of the batches that a feed has ahead
abbrev pub reply_ahead : {S : Type 0} → Steps S → S → Option Told → Feed → Option Reply
reply_ahead steps s told feed = option_map (rest_reply steps s) (batches_ahead told feed)

-- a text was written, and what was to be written before is this text and then the rest
pub record WroteUpTo (before rest : Option Reply) (old new : Option (List ℕ)) : Type 0 where
  pub text : List ℕ
  pub wrote : Wrote old new text
  pub is : before ≡ option_map (prepend text) rest

-- what is to be written of those that a `commit` ends in the first `most` bytes that a feed takes
abbrev pub texts_within : {S : Type 0} → Steps S → S → Option Told → Feed → ℕ → Option (List ℕ)
texts_within steps s told feed most =
    option_map (batch_texts steps s) (batches_within most told feed)

-- A text was written, and of what had to be written before of so many bytes as were taken or more
-- it is all, or it is what stands
-- before what is still to be
pub record KeptUp (before rest : ℕ → Option (List ℕ)) (taken : ℕ) (old new : Option (List ℕ)) : Type
    0 where
  pub text : List ℕ
  pub wrote : Wrote old new text
  pub is : (most : ℕ) → taken ≤ most
      → IfSome (before most) (λ w. Leads w old new)
      ⊎ (before most ≡ option_map (λ w. text ++ w) (rest most))

-- the reading stopped: the shelf failed, or a file is too long
abbrev pub IsReadStop : {T : Type 0} → Result T Stop → Type 0
IsReadStop r = IsErrOf r ShelfFailed ⊎ IsErrOf r TooLong

-- where a feed stands when the reading of its stream stops: as many bytes were taken as are at most
-- and another read is needed, exactly where a file is too long; where the shelf failed it may and
-- has to take more
abbrev pub StandsAt : Feed → Stop → Type 0
StandsAt feed ShelfFailed = (feed.taken < MOST_BYTES) × NeedsMore feed
StandsAt feed SinkFailed = ⊥
StandsAt feed Memory = ¬ IsSpent feed
StandsAt feed TooLong = IsSpent feed

-- a run went over the stream of a slot
pub record Streamed {S : Type 0} (steps : Steps S) (s : S) (told later : Option Told) (slot : ℕ)
    (old new : Option (List ℕ)) (r : Result ℕ Stop) : Type 0 where
  pub taken : ℕ
  pub advances : Advances told later slot taken
  pub within : IfSome told (λ t. taken ≤ length (readable t slot))
  pub reply : IfSome told (λ t. Gives (rest_reply steps s (batches (readable t slot))) old new r)
  pub kept_up : IsReadStop r → IfSome told
      (λ t. Leads (batch_texts steps s (ended_batches (take taken (readable t slot)))) old new)
