use Rattle.std.proofs.Common.{arith, ◌≡◌, [], refl, ap, ◌∙◌}
use Rattle.agg_words.specs.View.{without_word}
use Rattle.agg_words.specs.Facts.{SeatFacts}
use Rattle.agg_words.proofs.Clearing.{known_from, from_next, none_past}
use Rattle.agg_words.proofs.table.AggWords.clear_marks.Goals as goal

pub loop-mark_word-init : goal.loop-mark_word-init
loop-mark_word-init c =
    let full = ap (λ (s : SeatFacts). s.view.units) c.know.ensures.same ∙ c.requires.units in
    let from = known_from c.args.self.now.layout c.know.new.seat.view (c.know.ensures.full full) in
    (refl, from.0, from.1)

pub loop-mark_word-preserved : goal.loop-mark_word-preserved
loop-mark_word-preserved c =
    let inv = c.loop-mark_word.invariant in
    let m = c.loop-mark_word.mark_word in
    let n = c.args.self.now.layout.bits in
    rw c.wipe.ensures.seat (
      ap (λ (s : SeatFacts). record s { view = without_word s.view m })
          inv.0,
      from_next m n _ inv.1,
      from_next m n _ inv.2,
    )

pub returns : goal.returns
returns c =
    let inv = c.loop-mark_word.invariant in
    let m = c.loop-mark_word.mark_word in
    let n = c.args.self.now.layout.bits in
    let last = c.loop-mark_word-test.false in
    let count = c.mark_words-mark_word-end.ensures in
    let layout = ap (λ l. l.bits) c.layout.ensures in
    let marks : c.loop-mark_word.seat.view.marks ≡ [] = none_past m n _ (omega arith) inv.1 in
    let met : c.loop-mark_word.seat.view.met ≡ [] = none_past m n _ (omega arith) inv.2 in
    let same = c.know.ensures.same in
    record {
      seat = inv.0 ∙ (λ i. record (same i)
          { view = record (same i).view { marks = marks i; met = met i } });
    }
