use Rattle.vertex_expr.proofs.FloorLemmas.{floor_above, floor_below}
use Rattle.vertex_expr.proofs.laws.floor_is_greatest.Goals as goal

pub returns : goal.returns
returns c = record { law = λ x q n. (floor_above x q n, floor_below x q n) }
