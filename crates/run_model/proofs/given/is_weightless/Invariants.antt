use Rattle.std.proofs.Common.{◌≡◌, ◌<◌, ℕ, false}
use Rattle.vertex_expr.specs.Mentions.{mentions_weight}
use Rattle.range_check.specs.Laws.{tree_at}
use Rattle.run_model.proofs.given.is_weightless.Given as goal

abbrev pub invariant-loop-lane : goal.invariant-loop-lane
invariant-loop-lane l = (k : ℕ) → k < l.lane → mentions_weight (tree_at l.program.contribute k)
    ≡ false
