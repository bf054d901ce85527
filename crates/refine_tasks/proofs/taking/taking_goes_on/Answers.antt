use Rattle.refine_tasks.proofs.TakingLemmas.{taking_begins, taking_ends}
use Rattle.refine_tasks.proofs.taking.taking_goes_on.Goals as goal

pub returns : goal.returns
returns c = record { begins = taking_begins; ends = taking_ends }
