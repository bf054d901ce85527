use Rattle.std.proofs.Common.{◌≡◌, map}
use Rattle.std.specs.List.{range_with_len}
use Rattle.bolt_base.specs.Pieces.{piece}
use Rattle.core_model.specs.Iterations.{all_left}
use Rattle.core_adds.proofs.pieces.pieces_of.Given as goal

abbrev pub invariant-loop-k : goal.invariant-loop-k
invariant-loop-k l = l.pieces
    ≡ map (λ k. all_left (piece l.items l.workers k)) (range_with_len 0 l.k)
