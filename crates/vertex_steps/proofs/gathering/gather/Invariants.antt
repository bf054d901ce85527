use Rattle.vertex_steps.proofs.Adding.{IsAdded}
use Rattle.vertex_steps.proofs.gathering.gather.Given as goal

abbrev pub invariant-loop-lane : goal.invariant-loop-lane
invariant-loop-lane l = IsAdded l.combine l.initial.totals l.ones l.lane l.totals
