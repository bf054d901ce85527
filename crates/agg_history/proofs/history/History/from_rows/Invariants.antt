use Rattle.std.proofs.Common.{◌≡◌, ◌≤◌, ◌*◌, map, length}
use Rattle.std.specs.List.{sum_by, range_with_len}
use Rattle.bolt_base.specs.RowTable.{entry_at}
use Rattle.agg_history.proofs.MakeLemmas.{track_in, track_cells}
use Rattle.agg_history.proofs.history.History.from_rows.Given as goal

abbrev pub invariant-loop-v : goal.invariant-loop-v
invariant-loop-v l = record {
  first : l.first ≡ record
      { lanes = l.lanes; all = map (entry_at l.fn.rows.rows 0) (range_with_len 0 l.v) };
  tracks : l.tracks.items
      ≡ map (track_cells l.lanes l.vertical l.fn.rows.rows) (range_with_len 0 l.v);
  kept : l.kept ≡ sum_by (λ track. length track)
      (map (track_in l.vertical l.fn.rows.rows) (range_with_len 0 l.v));
  few : l.kept ≤ l.v * 64;
  lanes : l.entries.lanes ≡ l.lanes;
}
