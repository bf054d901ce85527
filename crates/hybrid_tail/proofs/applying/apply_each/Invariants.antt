use Rattle.std.proofs.Common.{◌≡◌, take}
use Rattle.run_model.specs.Rows.{applied, at}
use Rattle.hybrid_tail.specs.Setting.{with_each}
use Rattle.hybrid_tail.proofs.applying.apply_each.Given as goal

abbrev pub invariant-loop-place : goal.invariant-loop-place
invariant-loop-place g l =
    l.vals ≡ with_each
    (λ v. applied l.program (g.A.Adjacency.plain l.graph) (at l.aggs v) (at l.last v) v)
    (take l.place l.chosen) l.initial.vals
