use Rattle.std.proofs.Common.{ap, sym, ◌∙◌, map, take}
use Rattle.std.proofs.lemmas.List.{take-map}
use Rattle.adjacency.proofs.row_list.RowList.truncate.Goals as goal

pub returns : goal.returns
returns g c = ap (map g.R.Arcs.arcs) c.truncate.ensures.items
    ∙ sym (take-map g.R.Arcs.arcs c.args.count c.self.inside.rows.items)
    ∙ ap (take c.args.count) c.self.view_is
