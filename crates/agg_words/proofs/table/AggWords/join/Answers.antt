use Rattle.std.proofs.Common.{rules}
use Rattle.agg_words.proofs.Seats.{join_keeps_rule}
use Rattle.agg_words.proofs.table.AggWords.join.Goals as goal

pub join_seat-requires : goal.join_seat-requires
join_seat-requires c = (
  search rules,
  search rules,
  search rules,
  search rules,
  join_keeps_rule _ _
      _ _ _,
)
