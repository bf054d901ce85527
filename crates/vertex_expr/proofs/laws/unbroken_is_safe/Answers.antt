use Rattle.vertex_expr.proofs.Breaks.{safe_unbroken}
use Rattle.vertex_expr.proofs.laws.unbroken_is_safe.Goals as goal

pub returns : goal.returns
returns c = record { law = safe_unbroken }
