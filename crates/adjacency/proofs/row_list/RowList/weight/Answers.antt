use Rattle.std.proofs.Common.{ap, sym, ◌∙◌, arith}
use Rattle.std.specs.Ordering.{nat_cmp}
use Rattle.std.specs.FinMap as finite
use Rattle.adjacency.specs.Rows.{row_at}
use Rattle.adjacency.proofs.RowListLemmas.{row_past}
use Rattle.adjacency.proofs.row_list.RowList.weight.Goals as goal

pub returns-else-at-len : goal.returns-else-at-len
returns-else-at-len g c =
    sym (ap (λ r. finite.get r c.args.end)
    (row_past g.R.Arcs.arcs c.self.inside.rows.items c.args.at
    (omega (arith, c.len.ensures, c.self.inside.rows.ok.0)))
    ∙ finite.get-empty nat_cmp c.args.end)
    ∙ ap (λ rows. finite.get (row_at rows c.args.at) c.args.end) c.self.view_is
