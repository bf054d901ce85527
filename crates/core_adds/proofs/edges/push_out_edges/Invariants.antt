use Rattle.std.proofs.Common.{◌≡◌, ◌++◌, take}
use Rattle.bolt_base.specs.Graph.{out_edges}
use Rattle.core_adds.proofs.edges.push_out_edges.Given as goal

abbrev pub invariant-loop-k : goal.invariant-loop-k
invariant-loop-k g l = l.edges.items
    ≡ l.initial.edges.items ++ take l.k (out_edges (g.A.Adjacency.plain l.graph) l.u)
