use Rattle.std.proofs.Common.{◌≡◌, sym, arith}
use Rattle.std.specs.FinMap as finite
use Rattle.adj_pages.proofs.paged_row.PagedRow.of_arcs.Goals as goal

pub returns-then-len-eq0 : goal.returns-then-len-eq0
returns-then-len-eq0 c =
    let none : finite.len c.args.row ≡ 0 = omega (arith, c.len.ensures, c.if-len-eq0.true) in
    sym (finite.empty_of_len c.args.row none)
