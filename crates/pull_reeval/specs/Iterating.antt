-- An iteration of a min or max program.
use Rattle.std.specs.Prelude.{ℕ, ◌≤◌, List, map}
use Rattle.bolt_base.specs.Graph.{Graph}
use Rattle.vertex_expr.specs.declared.program.ProgramEntries.{ProgramEntries}
use Rattle.run_model.specs.Rows.{Lists, aggr, at, row}
use Rattle.adjacency.specs.declared.change.Change.{Change}
use Rattle.agg_history.specs.Pruned.{HistoryState}
use Rattle.agg_history.specs.Puts.{PutTable}
use Rattle.refine_rows.specs.Over.{IsChangeOver}
use Rattle.refine_rows.specs.Progress.{IsRefinedTo}

-- the iterations before i are refined, and i is one of those up to the cut
pub record CanIterate (p : ProgramEntries) (g h : Graph) (change : Change) (history : HistoryState)
    (t : PutTable) (i : ℕ) : Type 0 where
  pub net : IsChangeOver p g h change
  pub refined : IsRefinedTo p g h history t i
  pub some : 1 ≤ i
  pub low : i ≤ history.cut

-- the aggregates of some vertices at an iteration on a graph, and their values
abbrev pub aggs_of : ProgramEntries → Graph → ℕ → List ℕ → Lists
aggs_of p h i vs = map (at (aggr p h i)) vs

abbrev pub vals_of : ProgramEntries → Graph → ℕ → List ℕ → Lists
vals_of p h i vs = map (at (row p h i)) vs
