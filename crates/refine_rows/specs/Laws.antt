-- Laws of rows that are refined, each the clause of a public function.
use Rattle.std.specs.Prelude.{ℕ, ◌+◌, ◌≤◌, length}
use Rattle.bolt_base.specs.Graph.{Graph}
use Rattle.vertex_expr.specs.declared.program.ProgramEntries.{ProgramEntries}
use Rattle.range_check.specs.Breaks.{IsAccepted}
use Rattle.adjacency.specs.declared.change.Change.{Change}
use Rattle.agg_history.specs.Pruned.{HistoryState}
use Rattle.agg_history.specs.Puts.{PutTable}
use Rattle.refine_rows.specs.Over.{AreOver, IsChangeOver}
use Rattle.refine_rows.specs.Progress.{again, vertices_put, IsRefinedTo, IsRefinedWithin}
use Rattle.refine_rows.specs.Refining.{CanRefine, IsRefinedBy}

-- rows that can be refined are refined to iteration 0
abbrev pub RefinementBegins : Type 0
RefinementBegins = (p : ProgramEntries) (g h : Graph) (change : Change) (history : HistoryState)
    (t : PutTable) → IsAccepted p → CanRefine p g h change history t
    → IsChangeOver p g h change × IsRefinedTo p g h history t 0

-- where all that are evaluated again at an iteration were put, the next one begins
abbrev pub RefinementGoesOn : Type 0
RefinementGoesOn = (p : ProgramEntries) (g h : Graph) (history : HistoryState) (t : PutTable)
    (i : ℕ) → IsRefinedWithin p g h history t i → length (again p g h i) ≤ length (vertices_put t i)
    → IsRefinedTo p g h history t (i + 1)

-- past the cut they are refined
abbrev pub RefinementEnds : Type 0
RefinementEnds = (p : ProgramEntries) (g h : Graph) (history : HistoryState) (t : PutTable)
    → AreOver p g h → IsRefinedTo p g h history t (history.cut + 1) → IsRefinedBy p h history t
