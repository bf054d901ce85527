use Rattle.std.proofs.Common.{ap, ◌∙◌, ◌<◌, arith, length, subst, slice_get}
use Rattle.std.specs.FinMap as finite
use Rattle.std.proofs.lemmas.List.{length-map}
use Rattle.adjacency.specs.Row.{RowMap}
use Rattle.adjacency.proofs.PlainLemmas.{row_there}
use Rattle.adjacency.proofs.RowListLemmas.{row_mapped_at}
use Rattle.adjacency.proofs.row_list.RowList.arc.Goals as goal

pub index-row-requires : goal.index-row-requires
index-row-requires g c =
    let there = row_there c.args.self.now c.args.at c.args.k c.requires in
    let long = length-map c.self.inside.rows.items g.R.Arcs.arcs in
    omega (arith, there, long, ap length c.self.view_is, c.self.inside.rows.ok.0)

pub arc-requires : goal.arc-requires
arc-requires g c = subst (λ (r : RowMap). c.args.k < finite.len r)
    (row_mapped_at g.R.Arcs.arcs c.self.inside.rows.items c.args.self.now c.self.view_is c.args.at
    c.args.k c.requires c.index-row.result.now c.index-row.ensures) c.requires

pub returns : goal.returns
returns g c = ap (λ (r : RowMap). slice_get (finite.entries r) c.args.k)
    (row_mapped_at g.R.Arcs.arcs c.self.inside.rows.items c.args.self.now c.self.view_is c.args.at
    c.args.k c.requires c.index-row.result.now c.index-row.ensures) ∙ c.arc.ensures
