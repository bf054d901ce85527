use Rattle.std.proofs.Common.{◌≡◌, ◌-◌, ◌<◌, ℕ}
use Rattle.run_model.specs.Program.{number}
use Rattle.run_model.specs.Rows.{at, row}
use Rattle.refine_rows.proofs.dirty.has_other_value.Given as goal

abbrev pub invariant-loop-lane : goal.invariant-loop-lane
invariant-loop-lane g l = (j : ℕ) → j < l.lane
    → number (at (row l.program (g.A.Adjacency.plain l.graph) (l.i - 1)) l.u) j
    ≡ number (at (row l.program g.O.OldGraph.graph (l.i - 1)) l.u) j
