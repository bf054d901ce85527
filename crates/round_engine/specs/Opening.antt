-- What an opened engine stands for, and why none is opened.
use Rattle.std.specs.Prelude.{◌≡◌, ℕ, ◌<◌, ◌≤◌, None}
use Rattle.bolt_base.specs.Graph.{Graph, vertices}
use Rattle.bolt_base.specs.declared.answer.Choice.{Choice}
use Rattle.vertex_expr.specs.declared.program.ProgramEntries.{ProgramEntries}
use Rattle.round_engine.specs.Cells.{cells}
use Rattle.round_engine.specs.State.{EngineState}
use Rattle.round_engine.specs.declared.opening.TheConstants.{MOST_CELLS}
use Rattle.round_engine.specs.declared.opening.OpenError.{OpenError}
use Rattle.round_engine.specs.declared.opening.OpenError.TheVariants.{Cells, Memory}

-- a program on a graph, and no batch yet
abbrev pub opened_state : ProgramEntries → Choice → Graph → EngineState
opened_state p choice g = record {
  program = p;
  opened = vertices g;
  choice = choice;
  now = g;
  next = None;
  number = 0;
}

-- too many cells, with their number, exactly where they are more than the limit
abbrev pub IsOpenError : ProgramEntries → ℕ → ℕ → OpenError → Type 0
IsOpenError p n cut (Cells need limit) =
    (need ≡ cells p n cut) × ((limit ≡ MOST_CELLS) × (MOST_CELLS < need))
IsOpenError p n cut Memory = cells p n cut ≤ MOST_CELLS
