use Rattle.sum_steps.proofs.Spreading.{spread_leaves}
use Rattle.sum_steps.proofs.TakenWords.{takes_grow}
use Rattle.sum_steps.proofs.laws.spread_leaves_targets.Goals as goal

pub returns : goal.returns
returns c = record { left = spread_leaves; takes = takes_grow }
