use Rattle.std.proofs.Common.{w64}
use Rattle.std.proofs.lemmas.Int.{to_z-of_z}
use Rattle.vertex_expr.proofs.SampleLemmas.{mixed_evaluable, in_around}
use Rattle.vertex_expr.proofs.tests.mixed_at.Goals as goal

pub eval-requires : goal.eval-requires
eval-requires c =
    let old = in_around _ _ c.requires.old_least c.requires.old_most in
    let weight = in_around _ _ c.requires.weight_least c.requires.weight_most in
    let o = to_z-of_z w64 c.args.old c.ranges.old in
    let w = to_z-of_z w64 c.args.weight c.ranges.weight in
    record {
      safe = rw (
        c.requires.rank,
        c.requires.tree,
        c.lane_of.ensures.lanes,
        c.zeros.ensures,
        c.zeros-2.ensures,
        o,
        w,
      ) (mixed_evaluable _ _ old weight);
    }
