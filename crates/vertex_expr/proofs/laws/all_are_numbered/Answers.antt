use Rattle.vertex_expr.proofs.NodeLemmas.{length-postorder}
use Rattle.vertex_expr.proofs.laws.all_are_numbered.Goals as goal

pub returns : goal.returns
returns c = record { law = length-postorder }
