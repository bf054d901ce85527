use Rattle.run_model.specs.Program.{lanes, number}
use Rattle.run_model.specs.Rows.{at, aggr}
use Rattle.run_model.proofs.ByLane.{IsSoFar}
use Rattle.hybrid_tail.proofs.kept.kept_agg.Given as goal

abbrev pub invariant-loop-lane : goal.invariant-loop-lane
invariant-loop-lane g l =
    IsSoFar (number (at (aggr l.program (g.A.Adjacency.plain l.graph) l.i) l.v))
    (lanes l.program) l.lane l.agg
