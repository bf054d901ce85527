use Rattle.std.proofs.Common.{IsSome, subst, arith}
use Rattle.adjacency.proofs.FirstLemmas.{dst_inside}
use Rattle.adjacency.proofs.first_rows.first_rows.Goals as goal

pub rows_in-requires-clause-inside : goal.rows_in-requires-clause-inside
rows_in-requires-clause-inside c = λ u v some.
    let weighted = subst IsSome (c.in_ok-out.ensures.at u v) some in
    let below = dst_inside c.args.vertices c.args.edges.now c.requires.ends u v weighted in
    let long = c.in_ok-out.ensures.long in
    omega arith
