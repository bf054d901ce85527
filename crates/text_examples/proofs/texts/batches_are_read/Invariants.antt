use Rattle.std.proofs.Common.{◌≡◌, ◌<◌, length}
use Rattle.text_examples.proofs.texts.batches_are_read.Given as goal

abbrev pub invariant-loop-first : goal.invariant-loop-first
invariant-loop-first g l =
    record { slot : l.reader.feed.slot ≡ 0; there : 0 < length l.shelf.shelf.told.slots }
