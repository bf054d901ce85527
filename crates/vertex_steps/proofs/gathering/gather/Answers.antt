use Rattle.std.proofs.Common.{length, arith}
use Rattle.vertex_steps.proofs.Adding.{all_added}
use Rattle.vertex_steps.proofs.gathering.gather.Goals as goal

pub returns : goal.returns
returns c =
    let past = c.loop-lane-test.false in
    let width = c.width-lane-end.ensures.width in
    let long = c.requires.long in
    record {
      totals = all_added c.args.combine c.args.totals.now c.args.ones.now
          (length c.args.ones.now) c.loop-lane.lane c.loop-lane.totals
          c.requires.long c.loop-lane.invariant (omega arith);
    }
