use Rattle.std.proofs.Common.{length, arith, ap, ◌∙◌, ◌<◌, w64}
use Rattle.std.proofs.lemmas.Int.{to_z-of_z}
use Rattle.std.proofs.Math.Seq.{take-set-lt}
use Rattle.bolt_base.specs.Padded.{set_padded, length-taken}
use Rattle.bolt_base.proofs.lanes.Lanes.set.Goals as goal

pub invariant_of-self : goal.invariant_of-self
invariant_of-self c = set_padded _ _ _ _
    (omega (arith, ap length c.self.view_is, length-taken _ _ c.self.invariant)) c.self.invariant

pub returns : goal.returns
returns c =
    let inside : c.args.k < c.self.inside.width = omega
    (arith, ap length c.self.view_is, length-taken _ _ c.self.invariant) in
    take-set-lt c.self.inside.width c.self.inside.word c.args.k _ inside
    ∙ (let e = to_z-of_z w64 c.args.x c.ranges.x in rw (e, c.self.view_is))
