-- When the rows of the old graph and of the new one can be read at an iteration.
use Rattle.std.specs.Prelude.{◌≡◌, ℕ, ◌<◌, ◌≤◌, length, IsSome}
use Rattle.bolt_base.specs.RowTable.{entry_at}
use Rattle.agg_history.specs.Belongs.{BelongsTo}
use Rattle.agg_history.specs.Pruned.{HistoryState, rows_of, vertices_of}
use Rattle.agg_history.specs.Puts.{PutTable, laid_at, put_at}

-- each vertex has a value of so many lanes there
pub record IsOldRow (history : HistoryState) (lanes i : ℕ) : Type 0 where
  pub some : 1 ≤ lanes
  pub narrow : lanes ≤ 8
  pub wide : lanes ≡ history.lanes
  pub low : i ≤ history.cut
  pub each : (v : ℕ) → v < vertices_of history → length (entry_at (rows_of history) i v).1 ≡ lanes

-- the same with the overlay laid over, where every new vertex was put
pub record IsLaidRow (history : HistoryState) (t : PutTable) (lanes i : ℕ) : Type 0 where
  pub some : 1 ≤ lanes
  pub narrow : lanes ≤ 8
  pub wide : lanes ≡ t.lanes
  pub low : i ≤ t.cut
  pub belongs : BelongsTo t history
  pub new : (v : ℕ) → t.old_vertices ≤ v → v < t.vertices → IsSome (put_at t.puts i v)
  pub each : (v : ℕ) → v < t.vertices → length (laid_at t.puts (rows_of history) i v).1 ≡ lanes
