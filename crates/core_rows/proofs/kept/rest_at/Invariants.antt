use Rattle.std.proofs.Common.{◌≡◌, ◌-◌, take}
use Rattle.std.specs.List.{suffix_len}
use Rattle.bolt_base.specs.Keep.{same_entry}
use Rattle.core_rows.proofs.kept.rest_at.Given as goal

abbrev pub invariant-loop-j : goal.invariant-loop-j
invariant-loop-j l = l.rest ≡ l.j - suffix_len (λ e. same_entry e l.last) (take l.j l.entries)
