-- The rows that are kept of a graph up to the cut, in a history with an overlay laid over it.
use Rattle.std.specs.Prelude.{◌≡◌, ◌≤◌}
use Rattle.bolt_base.specs.Graph.{Graph, IsGood}
use Rattle.vertex_expr.specs.declared.program.ProgramEntries.{ProgramEntries}
use Rattle.range_check.specs.Breaks.{IsAccepted}
use Rattle.run_model.specs.Program.{lanes}
use Rattle.agg_history.specs.Pruned.{HistoryState}
use Rattle.agg_history.specs.Puts.{PutTable}
use Rattle.refine_rows.specs.Refining.{IsRefinedBy}

-- they are there, with at least one iteration past 0 and at most all of the program's
pub record AreKept (p : ProgramEntries) (h : Graph) (history : HistoryState) (overlay : PutTable)
    : Type 0 where
  pub safe : IsAccepted p
  pub good : IsGood p.limits h
  pub refined : IsRefinedBy p h history overlay
  pub lanes : history.lanes ≡ lanes p
  pub some : 1 ≤ history.cut
  pub cut : history.cut ≤ p.rounds
