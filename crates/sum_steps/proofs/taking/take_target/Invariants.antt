use Rattle.std.proofs.Common.{◌≡◌, ◌+ℤ◌, ◌++◌, length, map}
use Rattle.std.specs.Int.{cast_signed, int_wrap, w64}
use Rattle.std.specs.List.{range_with_len}
use Rattle.bolt_base.specs.Residue.{sum_at}
use Rattle.run_model.specs.Additions.{word}
use Rattle.run_model.specs.Program.{number}
use Rattle.run_model.proofs.ByLane.{IsSoFar}
use Rattle.sum_steps.specs.Taken.{take_of}
use Rattle.sum_steps.proofs.TakenWords.{AreZero}
use Rattle.sum_steps.proofs.taking.take_target.Given as goal

abbrev pub invariant-loop-lane : goal.invariant-loop-lane
invariant-loop-lane l = let before = l.initial.seat.view.amounts in record {
  seat : l.seat ≡ record l.initial.seat {
    view = record l.initial.seat.view
        { amounts = before ++ map (take_of l.program before l.v) (range_with_len 0 l.lane) };
  };
  zero : AreZero l.program l.v l.lane before l.seat.view.amounts;
  agg : IsSoFar (λ k. int_wrap w64 (number l.old k +ℤ cast_signed w64
      (sum_at (word l.program l.v k) before))) (length l.old) l.lane l.agg;
}
