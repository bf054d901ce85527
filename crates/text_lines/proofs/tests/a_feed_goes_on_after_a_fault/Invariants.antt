use Rattle.std.proofs.Common.{◌≡◌, ◌<◌, length}
use Rattle.text_lines.proofs.tests.a_feed_goes_on_after_a_fault.Given as goal

abbrev pub invariant-loop-want : goal.invariant-loop-want
invariant-loop-want g l =
    record { slot : l.feed.slot ≡ 0; there : 0 < length l.shelf.shelf.told.slots }
