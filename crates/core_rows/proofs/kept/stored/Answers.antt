use Rattle.std.proofs.Common.{arith}
use Rattle.bolt_base.proofs.RowColumns.{keep_below}
use Rattle.core_rows.proofs.kept.stored.Goals as goal

pub slice_bounds-from_slice-end : goal.slice_bounds-from_slice-end
slice_bounds-from_slice-end c =
    let low = keep_below c.args.vertical c.args.entries.now c.requires in
    let is = c.keep-most.ensures in
    omega arith
