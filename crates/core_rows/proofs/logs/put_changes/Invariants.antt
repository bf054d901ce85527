use Rattle.std.proofs.Common.{◌≡◌, take}
use Rattle.run_model.specs.Logs.{with_changes}
use Rattle.core_rows.proofs.logs.put_changes.Given as goal

abbrev pub invariant-loop-change : goal.invariant-loop-change
invariant-loop-change l = l.values.items
    ≡ with_changes l.initial.values.items (take l.change-index l.changes)
