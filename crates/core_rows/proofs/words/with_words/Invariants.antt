use Rattle.std.proofs.Common.{◌+ℤ◌}
use Rattle.std.specs.Int.{cast_signed, int_wrap, w64}
use Rattle.core_model.specs.Iterations.{word_in}
use Rattle.run_model.specs.Additions.{word}
use Rattle.run_model.specs.Program.{lanes, number}
use Rattle.run_model.proofs.ByLane.{IsSoFar}
use Rattle.core_rows.proofs.words.with_words.Given as goal

abbrev pub invariant-loop-lane : goal.invariant-loop-lane
invariant-loop-lane l = IsSoFar (λ k. int_wrap w64
    (number l.old k +ℤ cast_signed w64 (word_in l.words (word l.program l.v k))))
    (lanes l.program) l.lane l.agg
