-- How far the lines of a graph text were read.
use Rattle.std.specs.Prelude.{◌≡◌, ℕ, suc, ◌+◌, ◌-◌, ◌≤◌, length, take, Option, IfErr}
use Rattle.std.specs.Prelude.{IfSome}
use Rattle.bolt_base.specs.declared.limits.Limits.{Limits}
use Rattle.bolt_io.specs.declared.whole.TheConstants.{MOST_BYTES}
use Rattle.bolt_io.specs.Told.{Told, left}
use Rattle.text_lines.specs.Lines.{after_lines}
use Rattle.text_lines.specs.Feed.{Feed, ahead, bytes_after, rest}
use Rattle.graph_text.specs.GraphText.{Draft, draft_after}

-- the first line ahead ends in the bytes that were taken
abbrev pub EndsInHand : Feed → Told → Type 0
EndsInHand feed t =
    length (take (MOST_BYTES - feed.taken) (left t feed.slot)) ≤ length
    (after_lines 1 (rest t feed))

-- lines were answered, none of which is bad: what stands behind the next line is what stood behind
-- it before, and a bad line is none
-- of those before it
pub record ReadsGoodLines (l : Limits) (old new : Option Told) (before after : Feed) (first : Draft)
    : Type 0 where
  pub bytes_left : (n k : ℕ) → before.lines + k ≡ after.lines
      → bytes_after (suc n) new after ≡ bytes_after (suc (n + k)) old before
  pub no_sooner : IfSome (ahead old before)
      (λ lines. IfErr (draft_after l first (before.lines + 1) lines)
      (λ bad. after.lines + 1 ≤ bad.line))
