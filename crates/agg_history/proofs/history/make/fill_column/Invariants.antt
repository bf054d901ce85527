use Rattle.std.proofs.Common.{◌≡◌, length, take}
use Rattle.bolt_base.specs.Keep.{column}
use Rattle.agg_history.proofs.history.make.fill_column.Given as goal

abbrev pub invariant-loop-i : goal.invariant-loop-i
invariant-loop-i l = record {
  all : l.entries.all ≡ take l.i (column l.rows.rows l.v);
  lanes : l.entries.lanes ≡ l.rows.lanes;
  end : l.i-end ≡ length l.rows.rows;
}
