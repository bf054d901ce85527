use Rattle.std.proofs.Common.{◌≡◌, take}
use Rattle.agg_words.specs.View.{without_words_of}
use Rattle.agg_words.proofs.table.AggWords.wipe_bits.Given as goal

-- the mark words of the bits so far are wiped
abbrev pub invariant-loop-bit : goal.invariant-loop-bit
invariant-loop-bit l = l.seat ≡ record l.initial.seat
    { view = without_words_of l.initial.seat.view (take l.bit-index l.bits) }
