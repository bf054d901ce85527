use Rattle.std.proofs.Common.{get_or, []}
use Rattle.run_model.specs.Program.{number}
use Rattle.run_model.proofs.ByLane.{IsSoFar}
use Rattle.board.proofs.places.Places.value.Given as goal

abbrev pub invariant-loop-lane : goal.invariant-loop-lane
invariant-loop-lane l =
    IsSoFar (number (get_or l.self.values l.vertex [])) l.width l.lane l.value
