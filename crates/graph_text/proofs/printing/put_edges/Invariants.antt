use Rattle.std.proofs.Common.{◌≡◌, ◌++◌, take}
use Rattle.std.specs.List.{flat_map}
use Rattle.graph_text.specs.Printed.{edge_text}
use Rattle.graph_text.proofs.printing.put_edges.Given as goal

abbrev pub invariant-loop-edge : goal.invariant-loop-edge
invariant-loop-edge l = l.out ≡ l.initial.out ++ flat_map edge_text (take l.edge-index l.edges)
