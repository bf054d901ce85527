use Rattle.std.proofs.Common.{◌≡◌}
use Rattle.run_model.specs.Rows.{row}
use Rattle.core_adds.proofs.values.values_at.Given as goal

abbrev pub invariant-loop-i : goal.invariant-loop-i
invariant-loop-i g l = l.vals.items ≡ row l.program (g.A.Adjacency.plain l.graph) l.i
