use Rattle.std.proofs.Common.{◌≡◌, ◌≤◌, map, drop, length}
use Rattle.std.specs.FinMap as finite
use Rattle.bolt_base.specs.Plain.{entry}
use Rattle.graph_text.proofs.printing.sorted_edges.Given as goal

abbrev pub invariant-edges : goal.invariant-edges
invariant-edges l = record {
  put : l.map ≡ finite.from_entries (map entry (drop l.left l.edges));
  within : l.left ≤ length l.edges;
}

abbrev pub decreases-edges : goal.decreases-edges
decreases-edges l = l.left
