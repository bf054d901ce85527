use Rattle.std.proofs.Common.{◌≡◌, map, take}
use Rattle.core_rows.proofs.after.last_values.Given as goal

abbrev pub invariant-loop-entry : goal.invariant-loop-entry
invariant-loop-entry l = l.vals.items ≡ map (λ e. e.1) (take l.entry-index l.row)
