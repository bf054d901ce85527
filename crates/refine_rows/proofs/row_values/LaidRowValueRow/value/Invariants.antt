use Rattle.run_model.specs.Program.{number}
use Rattle.run_model.proofs.ByLane.{IsSoFar}
use Rattle.agg_history.specs.Pruned.{rows_of}
use Rattle.agg_history.specs.Puts.{laid_at}
use Rattle.refine_rows.proofs.row_values.LaidRowValueRow.value.Given as goal

abbrev pub invariant-loop-lane : goal.invariant-loop-lane
invariant-loop-lane l =
    IsSoFar (number (laid_at l.self.overlay.now.puts (rows_of l.self.history.now)
    l.self.iteration l.v).1) l.self.lanes l.lane l.value
