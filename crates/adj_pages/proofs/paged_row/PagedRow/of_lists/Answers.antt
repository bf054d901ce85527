use Rattle.std.proofs.Common.{◌≡◌, sym, arith}
use Rattle.std.specs.FinMap as finite
use Rattle.adj_pages.proofs.paged_row.PagedRow.of_lists.Goals as goal

pub returns-else-len-gt0 : goal.returns-else-len-gt0
returns-else-len-gt0 c =
    let none : finite.len c.args.lists ≡ 0 = omega (arith, c.len.ensures, c.if-len-gt0.false) in
    sym (finite.empty_of_len c.args.lists none)
