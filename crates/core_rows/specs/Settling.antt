-- When an iteration can be applied.
use Rattle.std.specs.Prelude.{◌≡◌, ℕ, ◌-◌, ◌*◌, ◌≤◌, true, List, [], length}
use Rattle.bolt_base.specs.Graph.{Graph, IsGood, vertices}
use Rattle.bolt_base.specs.Keep.{Entry, Row}
use Rattle.bolt_base.specs.Residue.{sum_at}
use Rattle.bolt_base.specs.declared.answer.Choice.{Choice}
use Rattle.vertex_expr.specs.declared.program.ProgramEntries.{ProgramEntries}
use Rattle.run_model.specs.Program.{is_sum, lanes}
use Rattle.run_model.specs.Rows.{rows_to}
use Rattle.core_model.specs.Iterations.{additions, word_in}
use Rattle.core_model.specs.Machine.{stored_of}
use Rattle.core_model.specs.Rules.{MayRun}
use Rattle.core_model.specs.State.{Given, Work}

-- a program on a graph
abbrev pub given_of : ProgramEntries → Choice → Graph → Given
given_of p choice g = record { program = p; opened = g; choice = choice }

-- an iteration of which no addition is left
abbrev pub work_of : Graph → ℕ → List Row → List ℕ → Work
work_of h i rows words =
    record { graph = h; iteration = i; rows = rows; words = words; left = [] }

-- all additions were made, the rows before are those from scratch, and so is what is kept of the
-- graph before
pub record CanSettle (p : ProgramEntries) (choice : Choice) (g : Graph) (kept : List (List Entry))
    (w : Work) : Type 0 where
  pub may : MayRun (given_of p choice g)
  pub new : IsGood p.limits w.graph
  pub some : 1 ≤ w.iteration
  pub within : w.iteration ≤ p.rounds
  pub rows : w.rows ≡ rows_to p w.graph (w.iteration - 1)
  pub stored : kept ≡ stored_of (given_of p choice g) g
  pub long : length w.words ≡ vertices w.graph * lanes p
  pub words : is_sum p.combine ≡ true → (k : ℕ)
      → word_in w.words k ≡ sum_at k (additions (given_of p choice g) g w.graph w.iteration)
