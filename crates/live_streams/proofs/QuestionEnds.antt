-- Questions that are read to their end.
use Rattle.std.proofs.Common.{◌≡◌, ℕ, ◌<◌, ◌≤◌, List, length, arith}
use Rattle.std.specs.Prelude.{Option, Some, None, Ok, Err, IfSome}
use Rattle.bolt_io.specs.Told.{Told, left}
use Rattle.bolt_io.specs.declared.whole.TheConstants.{MOST_BYTES}
use Rattle.text_lines.specs.declared.feed.FeedError.{FeedError}
use Rattle.text_lines.specs.declared.feed.FeedError.TheVariants.{Shelf, Turns, Memory}
use Rattle.command_files.specs.Stops.{feed_stop}
use Rattle.command_files.specs.declared.stop.Stop.TheVariants.{TooLong}
use Rattle.live_text.specs.Reading.{ReadsAsFar}
use Rattle.live_text.specs.declared.question.Question.{Question}

-- a slot whose questions were read to its end had few bytes
pub few_asked : (o : Option Told) (slot taken : ℕ) (qs : List Question)
    → IfSome o (ReadsAsFar slot taken (Ok qs))
    → IfSome o (λ t. length (left t slot) < MOST_BYTES)
few_asked None slot taken qs far = tt
few_asked (Some t) slot taken qs far = omega (arith, far.0, far.1)

-- and where another read than may be was needed it has too many
pub many_asked : (o : Option Told) (slot taken : ℕ) (e : FeedError)
    → IfSome o (ReadsAsFar slot taken (Err e)) → feed_stop e ≡ TooLong
    → IfSome o (λ t. MOST_BYTES ≤ length (left t slot))
many_asked None slot taken e far is = tt
many_asked (Some t) slot taken (Shelf fault) far is = absurd (cc is)
many_asked (Some t) slot taken (Turns n) far is = far
many_asked (Some t) slot taken Memory far is = absurd (cc is)
