use Rattle.std.proofs.Common.{◌≡◌, map}
use Rattle.std.specs.List.{range_with_len}
use Rattle.run_model.specs.Rows.{applied, gathered, at}
use Rattle.core_adds.proofs.values.values_after.Given as goal

abbrev pub invariant-loop-v : goal.invariant-loop-v
invariant-loop-v g l = l.next.items
    ≡ map (λ v. applied l.program (g.A.Adjacency.plain l.graph)
    (gathered l.program (g.A.Adjacency.plain l.graph) l.vals v) (at l.vals v) v)
    (range_with_len 0 l.v)
