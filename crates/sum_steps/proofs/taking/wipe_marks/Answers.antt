use Rattle.std.proofs.Common.{ap}
use Rattle.agg_words.specs.Facts.{SeatFacts}
use Rattle.sum_steps.proofs.TakenWords.{clear_from_none}
use Rattle.sum_steps.proofs.taking.wipe_marks.Goals as goal

pub returns-clause-seat : goal.returns-clause-seat
returns-clause-seat c =
    let wiped = c.wipe_bits.ensures.seat in
    let none = c.wipe_bits.ensures.none c.requires.marks in
    λ j. record {
      table = (wiped j).table;
      view = record {
        units = (wiped j).view.units;
        amounts = (wiped j).view.amounts;
        marks = none.0 j;
        met = none.1 j;
      };
    }

pub returns-clause-clear : goal.returns-clause-clear
returns-clause-clear c p amounts some left =
    let none = c.wipe_bits.ensures.none c.requires.marks in
    clear_from_none p c.args.words.now.layout amounts c.args.seat.now.view
    c.wipe_bits.new.seat.view some left
    (ap (λ (s : SeatFacts). s.view.units) c.wipe_bits.ensures.seat)
    (ap (λ (s : SeatFacts). s.view.amounts) c.wipe_bits.ensures.seat) none.0 none.1
