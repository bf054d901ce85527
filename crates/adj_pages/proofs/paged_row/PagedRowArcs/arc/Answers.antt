use Rattle.std.proofs.Common.{arith}
use Rattle.adj_pages.proofs.FormLemmas.{len_empty}
use Rattle.adj_pages.proofs.paged_row.PagedRowArcs.arc.Goals as goal

pub returns-in-Empty : goal.returns-in-Empty
returns-in-Empty c =
    let none = len_empty c.self.inside.form c.args.self.now c.self.view_is c.in-Empty.is in
    absurd (omega (arith, none, c.requires))
