use Rattle.std.proofs.Common.{◌≡◌, ℕ, not, filter, map, take}
use Rattle.std.specs.Cmp.Lexicographic.{pointwise}
use Rattle.std.specs.Ordering.{int_eq}
use Rattle.run_model.specs.Rows.{at}
use Rattle.hybrid_tail.proofs.applying.moved_among.Given as goal

abbrev pub invariant-loop-v : goal.invariant-loop-v
invariant-loop-v l = l.moved.items
    ≡ filter (λ v. not (pointwise int_eq (at l.last v) (at l.vals v)))
    (map (λ (v : ℕ). v) (take l.v-index l.chosen))
