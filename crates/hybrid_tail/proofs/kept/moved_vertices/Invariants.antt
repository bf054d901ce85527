use Rattle.std.proofs.Common.{◌≡◌, not, filter}
use Rattle.std.specs.Cmp.Lexicographic.{pointwise}
use Rattle.std.specs.List.{range_with_len}
use Rattle.std.specs.Ordering.{int_eq}
use Rattle.run_model.specs.Rows.{at}
use Rattle.hybrid_tail.proofs.kept.moved_vertices.Given as goal

abbrev pub invariant-loop-v : goal.invariant-loop-v
invariant-loop-v l = l.moved.items
    ≡ filter (λ v. not (pointwise int_eq (at l.last v) (at l.vals v))) (range_with_len 0 l.v)
