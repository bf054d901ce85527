use Rattle.sum_steps.proofs.Spreading.{taken_sums, others_keep}
use Rattle.sum_steps.proofs.laws.taken_sums_are_new.Goals as goal

pub returns : goal.returns
returns c = record { taken = taken_sums; others = others_keep }
