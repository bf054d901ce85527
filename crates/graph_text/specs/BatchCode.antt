-- What a reader of batches stands for.
use Rattle.std.specs.Prelude.{◌≡◌, ◌⊎◌, ℕ, ◌+◌, List, [], ◌∷◌, Option}
use Rattle.std.specs.Option.{option_map}
use Rattle.bolt_io.specs.Told.{Told}
use Rattle.bolt_io.specs.declared.whole.TheConstants.{MOST_BYTES}
use Rattle.text_lines.specs.Lines.{seen_ended_lines}
use Rattle.text_lines.specs.Feed.{Feed, MeetsLimit, ahead, ended_within, rest_within}
use Rattle.graph_text.specs.declared.batch_text.BatchText.{BatchText}
use Rattle.graph_text.specs.StreamText.{batches_of, ended_batches_of}

-- the feed of the lines, and how many batches were answered
pub record Reader : Type 0 where
  pub feed : Feed
  pub batches : ℕ

-- the batches that are still to come, of a reader over a shelf that tells its bytes
abbrev pub batches_ahead : Option Told → Feed → Option (List BatchText)
batches_ahead told feed = option_map (batches_of (feed.lines + 1)) (ahead told feed)

-- those that a `commit` with its LF ends in the first `most` bytes that the feed takes
abbrev pub batches_within : ℕ → Option Told → Feed → Option (List BatchText)
batches_within most told feed =
    option_map (ended_batches_of (feed.lines + 1)) (ended_within most told feed)

-- no batch ends in the first `most` bytes that a feed takes
abbrev pub NoBatchEnds : ℕ → Feed → Told → Type 0
NoBatchEnds most feed t =
    ended_batches_of (feed.lines + 1) (seen_ended_lines (rest_within most t feed)) ≡ []

-- of the batches that ended in the first `most` bytes this was the first, unless none had
abbrev pub IsFirstEnded : BatchText → ℕ → Option Told → Option Told → Feed → Feed → Type 0
IsFirstEnded b most old new before after =
    (batches_within most old before ≡ option_map (λ t. []) old)
    ⊎ (batches_within most old before
    ≡ option_map (λ more. b ∷ more) (batches_within most new after))

-- the next batch isn't to be had: none ends in the bytes that are taken at most, and the slot may
-- have more
pub record IsBatchStuck (feed : Feed) (t : Told) : Type 0 where
  pub limit : MeetsLimit feed t
  pub none : NoBatchEnds MOST_BYTES feed t
