use Rattle.std.proofs.Common.{◌≡◌, length, map, take}
use Rattle.adjacency.specs.Rows.{full_of}
use Rattle.adjacency.proofs.row_list.grow_rows.Given as goal

abbrev pub invariant-loop : goal.invariant-loop
invariant-loop g l = record {
  grown : map g.R.Arcs.arcs l.rows.items
      ≡ full_of (map g.R.Arcs.arcs l.initial.rows.items) l.counter;
  old : l.old ≡ length l.initial.rows.items;
  front : take l.old l.rows.items ≡ l.initial.rows.items;
}
