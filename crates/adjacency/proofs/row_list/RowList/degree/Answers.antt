use Rattle.std.proofs.Common.{ap, sym, ◌∙◌, ℤ, arith}
use Rattle.std.specs.Ordering.{nat_cmp}
use Rattle.std.specs.FinMap as finite
use Rattle.adjacency.specs.Rows.{row_at}
use Rattle.adjacency.proofs.RowListLemmas.{row_past}
use Rattle.adjacency.proofs.row_list.RowList.degree.Goals as goal

pub returns-else-at-len : goal.returns-else-at-len
returns-else-at-len g c =
    sym (ap finite.len (row_past g.R.Arcs.arcs c.self.inside.rows.items c.args.at
    (omega (arith, c.len.ensures, c.self.inside.rows.ok.0))) ∙ finite.len-empty nat_cmp ℤ)
    ∙ ap (λ rows. finite.len (row_at rows c.args.at)) c.self.view_is
