use Rattle.std.proofs.Common.{◌≡◌, map}
use Rattle.std.specs.List.{range_with_len}
use Rattle.run_model.specs.Rows.{gathered}
use Rattle.core_rows.proofs.after.gathered_aggregates.Given as goal

abbrev pub invariant-loop-v : goal.invariant-loop-v
invariant-loop-v g l = l.aggs.items
    ≡ map (gathered l.program (g.A.Adjacency.plain l.graph) l.vals) (range_with_len 0 l.v)
