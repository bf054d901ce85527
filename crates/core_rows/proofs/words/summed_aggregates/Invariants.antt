use Rattle.std.proofs.Common.{◌≡◌, map}
use Rattle.std.specs.List.{range_with_len}
use Rattle.core_model.specs.Iterations.{next_agg}
use Rattle.core_rows.specs.Settling.{given_of, work_of}
use Rattle.core_rows.proofs.words.summed_aggregates.Given as goal

abbrev pub invariant-loop-v : goal.invariant-loop-v
invariant-loop-v g l = l.aggs.items
    ≡ map (next_agg (given_of l.program l.choice (g.A.Adjacency.plain l.old))
    (g.A.Adjacency.plain l.old) l.kept
    (work_of (g.A.Adjacency.plain l.new) l.iteration l.rows l.words)) (range_with_len 0 l.v)
