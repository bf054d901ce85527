-- An overlay and the history that it is to be laid over.
use Rattle.std.specs.Prelude.{◌≡◌, ℕ, ◌≤◌, ◌<◌, ◌==◌, false, List, Some, None, IsSome}
use Rattle.std.specs.List.{list_any}
use Rattle.bolt_base.specs.Keep.{Row}
use Rattle.agg_history.specs.Puts.{PutTable, put_at, laid_over}
use Rattle.agg_history.specs.Pruned.{HistoryState, vertices_of, rows_of, pruned}

-- the overlay was made for a history like this one
pub record BelongsTo (t : PutTable) (h : HistoryState) : Type 0 where
  pub vertices : t.old_vertices ≡ vertices_of h
  pub lanes : t.lanes ≡ h.lanes
  pub cut : t.cut ≡ h.cut

-- every new vertex was put at each iteration
abbrev pub NewArePut : PutTable → Type 0
NewArePut t = (i v : ℕ) → i ≤ t.cut → t.old_vertices ≤ v → v < t.vertices
    → IsSome (put_at t.puts i v)

-- nothing was put for any vertex but these
abbrev pub HaveNoPut : PutTable → List ℕ → Type 0
HaveNoPut t touched = (i v : ℕ) → i ≤ t.cut → v < t.vertices
    → list_any (λ u. v == u) touched ≡ false → put_at t.puts i v ≡ None

-- the rows of a history with the overlay laid over them
abbrev pub laid_rows : PutTable → HistoryState → List Row
laid_rows t h = laid_over t.vertices t.puts (rows_of h)

-- a commit of the history will lay this overlay over its rows
abbrev pub Fits : PutTable → HistoryState → Type 0
Fits t h = h.next ≡ Some (pruned h.vertical (laid_rows t h))
