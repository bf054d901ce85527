use Rattle.std.proofs.Common.{ap, sym, ◌∙◌, ◌++◌, map, reverse}
use Rattle.std.proofs.lemmas.List.{reverse-reverse}
use Rattle.adjacency.proofs.RowListLemmas.{moved_more}
use Rattle.adjacency.proofs.row_list.RowList.of_rows.Goals as goal

pub loop-row-init : goal.loop-row-init
loop-row-init g c = record {
  all = rw (c.in_ok-list.ensures.items, c.reverse.ensures.items)
      (reverse-reverse c.args.rows.items);
}

pub loop-row-preserved : goal.loop-row-preserved
loop-row-preserved g c = record {
  all = rw c.in_ok-push.ensures.items
      (moved_more g.R.Arcs.arcs c.loop-row.list.items c.in_ok-of_row.field-0 c.pop.new.self.items
      c.args.rows.items c.in-Some.row c.in_ok-of_row.ensures
      (ap (λ rs. map g.R.Arcs.arcs c.loop-row.list.items ++ reverse rs)
      (sym c.in-Some.ensures.items) ∙ c.loop-row.invariant.all));
}
