use Rattle.std.proofs.Common.{arith}
use Rattle.graph_text.proofs.IndexLemmas.{all_counted}
use Rattle.graph_text.proofs.edge_set.EdgeSet.len.Goals as goal

pub returns : goal.returns
returns c =
    let counted =
    all_counted c.self.inside.edges.items c.self.inside.rows.items c.self.inside.in_degrees.items
    c.args.self.now c.self.invariant c.self.view_is in
    omega (arith, counted, c.len.ensures)
