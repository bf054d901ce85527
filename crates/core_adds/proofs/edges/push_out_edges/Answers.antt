use Rattle.std.proofs.Common.{ℕ, ◌+◌, ◌<◌, take, length, List, arith}
use Rattle.bolt_base.specs.Graph.{Graph, out_edges}
use Rattle.bolt_base.specs.declared.edge.Edge.{Edge}
use Rattle.core_adds.proofs.ListSteps.{joined_more, taken_more}
use Rattle.core_adds.proofs.edges.push_out_edges.Goals as goal

pub loop-k-preserved : goal.loop-k-preserved
loop-k-preserved g c =
    let h : Graph = g.A.Adjacency.plain c.args.graph.now in
    let out : List Edge = out_edges h c.args.u in
    let k : ℕ = c.loop-k.k in
    let test = c.loop-k-test.true in
    let long = c.out_degree-k-end.ensures in
    let small : k < length out = omega arith in
    joined_more c.args.edges.now.items (take k out) (take (k + 1) out) c.loop-k.edges.items
    c.push.new.self.items c.edge_out.result c.loop-k.invariant c.in_ok-push.ensures.items
    (taken_more out k c.edge_out.result small c.edge_out.ensures)
