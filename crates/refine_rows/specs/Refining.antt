-- What a refinement begins with, and what it ends with.
use Rattle.std.specs.Prelude.{◌≡◌, ℕ, ◌≤◌}
use Rattle.std.specs.List.Sorted.{IsSorted}
use Rattle.std.specs.Ordering.{nat_cmp}
use Rattle.bolt_base.specs.Graph.{Graph, IsGood, vertices}
use Rattle.vertex_expr.specs.declared.program.ProgramEntries.{ProgramEntries}
use Rattle.run_model.specs.Program.{lanes}
use Rattle.run_model.specs.Rows.{rows_to}
use Rattle.adjacency.specs.ChangeOf.{IsChange}
use Rattle.adjacency.specs.declared.change.Change.{Change}
use Rattle.agg_history.specs.Belongs.{BelongsTo, NewArePut, laid_rows}
use Rattle.agg_history.specs.Pruned.{HistoryState, rows_of}
use Rattle.agg_history.specs.Puts.{PutTable, no_puts_for}
use Rattle.refine_rows.specs.Progress.{vertices_put}

-- rows can be refined: both graphs are good, the change is the one from the old graph to the new
-- one, which has all its vertices, the history stands for the old rows, and nothing is put yet
pub record CanRefine (p : ProgramEntries) (g h : Graph) (change : Change) (history : HistoryState)
    (overlay : PutTable) : Type 0 where
  pub old_good : IsGood p.limits g
  pub new_good : IsGood p.limits h
  pub more : vertices g ≤ vertices h
  pub net : IsChange g h change
  pub some : 1 ≤ history.cut
  pub cut : history.cut ≤ p.rounds
  pub empty : overlay ≡ no_puts_for (vertices g) (vertices h) (lanes p) history.cut
  pub lanes : history.lanes ≡ lanes p
  pub rows : rows_of history ≡ rows_to p g history.cut

-- they are refined: the overlay, laid over the history, makes the new rows, and the vertices that
-- were put at an iteration rise
pub record IsRefinedBy (p : ProgramEntries) (h : Graph) (history : HistoryState)
    (overlay : PutTable) : Type 0 where
  pub belongs : BelongsTo overlay history
  pub vertices : overlay.vertices ≡ vertices h
  pub new : NewArePut overlay
  pub laid : laid_rows overlay history ≡ rows_to p h history.cut
  pub rising : (i : ℕ) → i ≤ history.cut → IsSorted nat_cmp (vertices_put overlay i)
