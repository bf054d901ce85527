use Rattle.vertex_expr.proofs.Fits.{safe_fits}
use Rattle.vertex_expr.proofs.Sound.{safe_is_sound}
use Rattle.vertex_expr.proofs.evaluation.eval.Goals as goal

pub value-requires : goal.value-requires
value-requires c =
    let s = c.requires.safe in
    let f = safe_fits _ s.bounds _ s.inside _ s.safe (safe_is_sound _ s.bounds _ s.inside _ s.safe)
    in
    record { fit = rw (c.as_slice.ensures, c.entries.ensures.entries) f }
