-- What is made of an engine's parts while a batch is prepared.
use Rattle.std.specs.Prelude.{◌≡◌, ℕ, List, map, length}
use Rattle.agg_history.specs.Pruned.{HistoryState}
use Rattle.agg_history.specs.Puts.{laid_over}
use Rattle.adjacency.specs.ChangeOf.{IsChange}
use Rattle.adjacency.specs.declared.change.Change.{Change}
use Rattle.bolt_base.specs.Graph.{Graph}
use Rattle.bolt_base.specs.declared.answer.AnswerChange.{AnswerChange}
use Rattle.bolt_base.specs.declared.answer.Choice.{Choice}
use Rattle.run_model.specs.Logs.{answer_changes, differs}
use Rattle.run_model.specs.Rows.{Lists, answer, at, rows_to}
use Rattle.vertex_expr.specs.declared.program.ProgramEntries.{ProgramEntries}
use Rattle.refine_rows.specs.Over.{AreOver}
use Rattle.refine_rows.specs.Picked.{vertices_where}
use Rattle.round_engine.specs.EngineOf.{IsAnswerOf, IsHistoryOf, IsChoice}
use Rattle.round_engine.specs.declared.parts.Answered.{Answered}
use Rattle.round_engine.specs.declared.parts.Refined.{Refined}

-- a change leads from a good graph to another one, and the history is that of a run on the first
-- one
pub record IsStepOf (p : ProgramEntries) (choice : Choice) (g h : Graph) (change : Change)
    (history : HistoryState) : Type 0 where
  pub chosen : IsChoice p choice
  pub over : AreOver p g h
  pub net : IsChange g h change
  pub begun : IsHistoryOf p choice g history

-- the answer on the new graph, and what changes in it
pub record LeadsAnswerOn (p : ProgramEntries) (choice : Choice) (g h : Graph) (x : Answered)
    : Type 0 where
  pub answered : IsAnswerOf p choice h x.answer
  pub told : x.changes ≡ answer_changes (answer p g) (answer p h)

-- what is put over the old rows makes them the new ones, and so for the answer
pub record LeadsOn (p : ProgramEntries) (choice : Choice) (g h : Graph) (x : Refined)
    : Type 0 where
  pub laid : laid_over x.overlay.vertices x.overlay.puts (rows_to p g choice.cut)
      ≡ rows_to p h choice.cut
  pub last : LeadsAnswerOn p choice g h x.last

-- the vertices whose value differs and the new ones, rising
abbrev pub renewed : Lists → Lists → List ℕ
renewed old new = vertices_where (length new) (differs old new)

-- vertices with their values in a row
abbrev pub changes_in : Lists → List ℕ → List AnswerChange
changes_in values vs = map (λ v. record { vertex = v; value = at values v }) vs
