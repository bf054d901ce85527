use Rattle.std.proofs.Common.{◌/◌, arith}
use Rattle.std.proofs.Math.Nat.{div-mul-le_self, mul-le-mul_left}
use Rattle.pull_targets.proofs.pull.share.Goals as goal

pub overflow_mul-result : goal.overflow_mul-result
overflow_mul-result c =
    let whole = div-mul-le_self c.args.work c.args.workers in
    let part = mul-le-mul_left (c.args.work / c.args.workers) c.requires.some in
    let fits = c.ranges.work in
    omega arith

pub returns : goal.returns
returns c =
    let whole = div-mul-le_self c.args.work c.args.workers in
    let part = mul-le-mul_left (c.args.work / c.args.workers) c.requires.some in
    record { within = omega arith }
