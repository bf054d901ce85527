use Rattle.std.proofs.Common.{◌≡◌, ap, sym, ◌∙◌, arith}
use Rattle.std.specs.FinMap as finite
use Rattle.adj_pages.specs.Index.{joined}
use Rattle.adj_pages.proofs.IndexLemmas.{no_entries_of_len}
use Rattle.adj_pages.proofs.page.one_page.Goals as goal

pub returns-else-len-gt0-clause-arcs : goal.returns-else-len-gt0-clause-arcs
returns-else-len-gt0-clause-arcs c = ap joined c.new-pages.ensures.items
    ∙ sym (no_entries_of_len c.args.row
    (let e : finite.len c.args.row ≡ 0 = omega (arith, c.len.ensures, c.if-len-gt0.false) in e))
