use Rattle.std.proofs.Common.{◌≡◌, ◌<◌, ℕ, pos, length, get_or}
use Rattle.bolt_base.specs.RowTable.{entry_at}
use Rattle.agg_history.proofs.history.make.val_of.Given as goal

abbrev pub invariant-loop-lane : goal.invariant-loop-lane
invariant-loop-lane l = record {
  width : length l.val ≡ l.rows.lanes;
  below : (k : ℕ) → k < l.lane
      → get_or l.val k (pos 0) ≡ get_or (entry_at l.rows.rows l.i l.v).1 k (pos 0);
}
