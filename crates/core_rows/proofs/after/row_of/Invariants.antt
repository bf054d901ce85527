use Rattle.std.proofs.Common.{◌≡◌, map}
use Rattle.std.specs.List.{range_with_len}
use Rattle.run_model.specs.Rows.{applied, at}
use Rattle.core_rows.proofs.after.row_of.Given as goal

abbrev pub invariant-loop-v : goal.invariant-loop-v
invariant-loop-v g l = l.row.items
    ≡ map (λ v. (
      at l.aggs v,
      applied l.program (g.A.Adjacency.plain l.graph) (at l.aggs v)
          (at l.vals v) v,
    )) (range_with_len 0 l.v)
