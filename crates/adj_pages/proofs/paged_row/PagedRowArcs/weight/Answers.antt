use Rattle.std.proofs.Common.{sym}
use Rattle.adj_pages.proofs.FormLemmas.{get_empty}
use Rattle.adj_pages.proofs.paged_row.PagedRowArcs.weight.Goals as goal

pub returns-in-Empty : goal.returns-in-Empty
returns-in-Empty c =
    sym (get_empty c.self.inside.form c.args.self.now c.self.view_is c.in-Empty.is c.args.end)
