use Rattle.vertex_expr.proofs.Sound.{safe_is_sound}
use Rattle.vertex_expr.proofs.laws.boxes_are_sound.Goals as goal

pub returns : goal.returns
returns c = record { law = λ ps b n t h s. safe_is_sound ps b n h t s }
