use Rattle.std.proofs.Common.{◌≡◌, map}
use Rattle.std.specs.List.{range_with_len}
use Rattle.pull_reeval.specs.Applying.{applied_at}
use Rattle.pull_reeval.proofs.applying.next_values_alone.Given as goal

abbrev pub invariant-loop-place : goal.invariant-loop-place
invariant-loop-place g l = l.vals.items
    ≡ map (applied_at l.program (g.A.Adjacency.plain l.graph) (g.V.ValueRow.values l.row)
    l.vertices l.aggs) (range_with_len 0 l.place)
