use Rattle.std.proofs.Common.{◌≡◌, ◌<◌, length}
use Rattle.text_lines.proofs.tests.four_lines.Given as goal

abbrev pub invariant-loop-length : goal.invariant-loop-length
invariant-loop-length l =
    record { slot : l.feed.slot ≡ 0; there : 0 < length l.shelf.shelf.told.slots }
