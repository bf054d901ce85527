use Rattle.std.proofs.Common.{◌≡◌, ◌++◌, take}
use Rattle.std.specs.List.{flat_map}
use Rattle.report_text.specs.Values.{set_line}
use Rattle.report_text.proofs.values.push_sets.Given as goal

abbrev pub invariant-loop-change : goal.invariant-loop-change
invariant-loop-change l =
    l.out ≡ l.initial.out ++ flat_map set_line (take l.change-index l.changes)
