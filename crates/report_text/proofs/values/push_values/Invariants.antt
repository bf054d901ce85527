use Rattle.std.proofs.Common.{◌≡◌, ◌++◌}
use Rattle.std.specs.List.{range_with_len, flat_map}
use Rattle.report_text.specs.Values.{value_line}
use Rattle.report_text.proofs.values.push_values.Given as goal

abbrev pub invariant-loop-v : goal.invariant-loop-v
invariant-loop-v g l =
    l.out ≡ l.initial.out ++ flat_map (value_line (g.V.ValueRow.values l.row))
    (range_with_len 0 l.v)
