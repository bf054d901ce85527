use Rattle.refine_rows.proofs.PutLemmas.{begins, goes_on}
use Rattle.refine_rows.proofs.laws.refinement_goes_on.Goals as goal

pub returns-clause-begins : goal.returns-clause-begins
returns-clause-begins c = λ p g h change history t. begins p g h history t change

pub returns-clause-goes_on : goal.returns-clause-goes_on
returns-clause-goes_on c = goes_on
