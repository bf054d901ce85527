use Rattle.std.proofs.Common.{◌≡◌, ◌++◌}
use Rattle.std.specs.List.{flat_map, range_with_len}
use Rattle.graph_text.specs.Printed.{attr_text}
use Rattle.graph_text.proofs.printing.put_attrs.Given as goal

abbrev pub invariant-loop-vertex : goal.invariant-loop-vertex
invariant-loop-vertex l =
    l.out ≡ l.initial.out ++ flat_map (attr_text l.attrs) (range_with_len 0 l.vertex)
