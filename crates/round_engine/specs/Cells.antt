-- How many cells an engine may come to keep.
use Rattle.std.specs.Prelude.{ℕ, ◌+◌, ◌*◌}
use Rattle.bolt_base.specs.Graph.{room}
use Rattle.vertex_expr.specs.declared.program.ProgramEntries.{ProgramEntries}
use Rattle.run_model.specs.Program.{lanes}

-- one for each lane of each vertex to which a graph of n vertices may grow, at each of the
-- iterations 0 to the cut
abbrev pub cells : ProgramEntries → ℕ → ℕ → ℕ
cells p n cut = room p.limits n * lanes p * (cut + 1)
