use Rattle.std.proofs.Common.{◌≡◌, map, take}
use Rattle.hybrid_tail.specs.TailTasks.{tail_source}
use Rattle.hybrid_tail.proofs.sums.tasks_of.Given as goal

abbrev pub invariant-loop-u : goal.invariant-loop-u
invariant-loop-u g l = l.sources.items
    ≡ map (tail_source l.program (g.A.Adjacency.plain l.graph) l.i) (take l.u-index l.u-items)
