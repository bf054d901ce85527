use Rattle.std.proofs.Common.{rules, arith, ap}
use Rattle.agg_words.proofs.Seats.{split_keeps_rule}
use Rattle.agg_words.proofs.table.AggWords.split_as.Goals as goal

pub split_seat-cut-requires : goal.split_seat-cut-requires
split_seat-cut-requires g c =
    let room = c.self.invariant.size in
    let units = ap (λ s. s.view.units) c.seat.view_is in
    let told = c.requires.told in
    (search rules, omega arith, split_keeps_rule _ _ _ _ (omega arith))
