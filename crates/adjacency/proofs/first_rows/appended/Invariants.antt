use Rattle.std.proofs.Common.{take}
use Rattle.adjacency.specs.FirstRows.{AreOut}
use Rattle.adjacency.proofs.first_rows.appended.Given as goal

abbrev pub invariant-loop-edge : goal.invariant-loop-edge
invariant-loop-edge l = record {
  given : AreOut l.vertices (take l.edge-index l.edges) l.rows.items;
}
