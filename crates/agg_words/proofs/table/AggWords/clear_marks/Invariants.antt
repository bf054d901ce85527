use Rattle.std.proofs.Common.{◌≡◌}
use Rattle.agg_words.proofs.Clearing.{AreFrom}
use Rattle.agg_words.proofs.table.AggWords.clear_marks.Given as goal

-- the bits that are left lie in this mark word or a later one, and only marks and met bits have
-- changed
abbrev pub invariant-loop-mark_word : goal.invariant-loop-mark_word
invariant-loop-mark_word l =
    (l.seat ≡ record l.initial.seat {
      view = record l.initial.seat.view
          { marks = l.seat.view.marks; met = l.seat.view.met };
    })
    × AreFrom l.mark_word l.self.layout.bits l.seat.view.marks
    × AreFrom l.mark_word l.self.layout.bits l.seat.view.met
