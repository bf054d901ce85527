use Rattle.std.proofs.Common.{◌≡◌, map}
use Rattle.std.specs.List.{range_with_len}
use Rattle.run_model.specs.Rows.{at, aggr}
use Rattle.hybrid_tail.proofs.kept.kept_aggs.Given as goal

abbrev pub invariant-loop-v : goal.invariant-loop-v
invariant-loop-v g l = l.aggs.items
    ≡ map (at (aggr l.program (g.A.Adjacency.plain l.graph) l.i)) (range_with_len 0 l.v)
