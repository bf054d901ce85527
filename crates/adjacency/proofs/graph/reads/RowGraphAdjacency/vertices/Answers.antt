use Rattle.std.proofs.Common.{arith, rules, Fits, w32}
use Rattle.adjacency.proofs.graph.reads.RowGraphAdjacency.vertices.Goals as goal

pub overflow_cast-result : goal.overflow_cast-result
overflow_cast-result g c =
    let narrow : Fits w32 c.self.inside.limits.vertices = search rules in
    let few = c.self.invariant.good.few_vertices in
    let long = c.self.inside.attrs.ok.0 in
    let len = c.len.ensures in
    omega arith
