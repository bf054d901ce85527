use Rattle.std.proofs.Common.{◌≡◌, map}
use Rattle.std.specs.List.{range_with_len}
use Rattle.run_model.specs.Rows.{begun}
use Rattle.core_adds.proofs.values.first_values.Given as goal

abbrev pub invariant-loop-v : goal.invariant-loop-v
invariant-loop-v g l = l.vals.items
    ≡ map (begun l.program (g.A.Adjacency.plain l.graph)) (range_with_len 0 l.v)
