use Rattle.std.proofs.Common.{◌≡◌, ℕ, ℤ, List, map, take}
use Rattle.hybrid_tail.specs.Setting.{with_each}
use Rattle.hybrid_tail.proofs.pulls.set_aggs.Given as goal

abbrev pub invariant-loop-place : goal.invariant-loop-place
invariant-loop-place l = (f : ℕ → List ℤ) → l.new ≡ map f l.chosen
    → l.aggs ≡ with_each f (take l.place l.chosen) l.initial.aggs
