use Rattle.std.proofs.Common.{ap, ◌∙◌}
use Rattle.agg_words.specs.View.{times}
use Rattle.agg_words.specs.Facts.{SeatFacts}
use Rattle.agg_words.proofs.Wiping.{times-outside_there}
use Rattle.agg_words.proofs.table.AggWords.wipe.Goals as goal

pub returns-clause-clear : goal.returns-clause-clear
returns-clause-clear c bit there = record {
  marks = ap (λ (s : SeatFacts). times bit s.view.marks) c.wipe_as.ensures
      ∙ times-outside_there c.args.mark_word bit c.args.seat.now.view.marks there;
  met = ap (λ (s : SeatFacts). times bit s.view.met) c.wipe_as.ensures
      ∙ times-outside_there c.args.mark_word bit c.args.seat.now.view.met there;
}
