use Rattle.std.proofs.Common.{◌≡◌, take}
use Rattle.core_model.specs.Iterations.{all_left}
use Rattle.core_adds.proofs.pieces.concatenated.Given as goal

abbrev pub invariant-loop-list : goal.invariant-loop-list
invariant-loop-list l = l.all ≡ all_left (take l.list-index l.lists)
