use Rattle.vertex_expr.proofs.Known.{program_known}
use Rattle.vertex_expr.proofs.laws.programs_are_known.Goals as goal

pub returns : goal.returns
returns c = record { law = program_known }
