use Rattle.vertex_expr.proofs.Unmentioned.{same_meaning}
use Rattle.vertex_expr.proofs.laws.only_mentioned_matters.Goals as goal

pub returns : goal.returns
returns c = record { law = same_meaning }
