-- What an iteration sees of the old rows and of the new ones.
use Rattle.std.specs.Prelude.{ℕ, ℤ, List}
use Rattle.bolt_base.specs.Graph.{Graph, vertices}
use Rattle.vertex_expr.specs.declared.program.ProgramEntries.{ProgramEntries}
use Rattle.run_model.specs.Refined.{agg_again, had}
use Rattle.run_model.specs.Rows.{rows_to}
use Rattle.run_model.specs.Steps.{step, value_changed}
use Rattle.refine_rows.specs.Picked.{vertices_where}

-- the old vertices whose value at the iteration before is another one than it was, rising
abbrev pub changed_values : ProgramEntries → Graph → Graph → ℕ → List ℕ
changed_values p g h i = vertices_where (vertices g) (value_changed (step p g h i))

-- the aggregate of a vertex in the old rows up to a cut: a new one had none
abbrev pub had_before : ProgramEntries → Graph → ℕ → ℕ → ℕ → List ℤ
had_before p g cut i v = had p g (rows_to p g cut) i v

-- its aggregate when it is evaluated again
abbrev pub agg_now : ProgramEntries → Graph → Graph → ℕ → ℕ → ℕ → List ℤ
agg_now p g h cut i v = agg_again p (step p g h i) (had_before p g cut i v) v
