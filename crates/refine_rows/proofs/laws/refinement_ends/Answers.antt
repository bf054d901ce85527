use Rattle.refine_rows.proofs.PutLemmas.{ends}
use Rattle.refine_rows.proofs.laws.refinement_ends.Goals as goal

pub returns : goal.returns
returns c = ends
