use Rattle.std.proofs.Common.{◌++◌, List, refl, ap, ◌∙◌}
use Rattle.bolt_base.specs.Residue.{Amount, sum_at}
use Rattle.agg_words.specs.Facts.{SeatFacts}
use Rattle.agg_words.specs.View.{taken_back, with_taken}
use Rattle.agg_words.proofs.Clearing.{takes_next, takes_back_next}
use Rattle.agg_words.proofs.table.AggWords.clear_words.Goals as goal

pub loop-word-preserved : goal.loop-word-preserved
loop-word-preserved c =
    let inv = c.loop-word.invariant in
    let w = c.loop-word.word in
    let old : List Amount = c.args.seat.now.view.amounts in
    let first : SeatFacts = c.args.seat.now in (
      c.take.ensures.seat
          ∙ ap (λ (s : SeatFacts). record s { view = with_taken s.view w }) inv.0
          ∙ ap (λ (l : List Amount). let s : SeatFacts = record first
          { view = record first.view { amounts = l } } in s)
          (takes_back_next w old (old ++ taken_back w old) refl),
      λ u below. ap (λ (s : SeatFacts). sum_at u s.view.amounts) c.take.ensures.seat
          ∙ takes_next w u c.loop-word.seat.view.amounts (inv.1 u) below,
    )
