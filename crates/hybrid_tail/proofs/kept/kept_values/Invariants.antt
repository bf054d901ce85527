use Rattle.std.proofs.Common.{◌≡◌, map}
use Rattle.std.specs.List.{range_with_len}
use Rattle.run_model.specs.Rows.{at, row}
use Rattle.hybrid_tail.proofs.kept.kept_values.Given as goal

abbrev pub invariant-loop-v : goal.invariant-loop-v
invariant-loop-v g l = l.vals.items
    ≡ map (at (row l.program (g.A.Adjacency.plain l.graph) l.i)) (range_with_len 0 l.v)
