use Rattle.std.proofs.Common.{◌≡◌, map}
use Rattle.std.specs.List.{range_with_len}
use Rattle.run_model.specs.Program.{zeros}
use Rattle.run_model.specs.Rows.{begun}
use Rattle.core_rows.proofs.first.first_row.Given as goal

abbrev pub invariant-loop-v : goal.invariant-loop-v
invariant-loop-v g l = l.row.items
    ≡ map (λ v. (zeros l.program, begun l.program (g.A.Adjacency.plain l.graph) v))
    (range_with_len 0 l.v)
