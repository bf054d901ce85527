use Rattle.std.proofs.Common.{◌∙◌, ◌+◌, ◌++◌, ◌∷◌, ℕ, List, [], length, ap}
use Rattle.std.proofs.lemmas.List.{length_push}
use Rattle.made_runs.proofs.LineNumbers.{numbers_more}
use Rattle.made_runs.proofs.batches.line_numbers.Goals as goal

pub loop-before-preserved : goal.loop-before-preserved
loop-before-preserved c = record {
  numbers = c.in_ok-push.ensures.ok
      ∙ ap (λ (xs : List ℕ). xs ++ (c.loop-before.before + 1) ∷ []) c.loop-before.invariant.numbers
      ∙ numbers_more c.loop-before.before;
  count = ap length c.in_ok-push.ensures.ok
      ∙ length_push c.loop-before.lines (c.loop-before.before + 1)
      ∙ ap (λ (n : ℕ). n + 1) c.loop-before.invariant.count;
}
