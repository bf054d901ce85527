use Rattle.std.proofs.Common.{◌≡◌, map}
use Rattle.std.specs.List.{range_with_len}
use Rattle.bolt_base.specs.Keep.{column, stored}
use Rattle.core_rows.proofs.kept.stored_entries.Given as goal

abbrev pub invariant-loop-v : goal.invariant-loop-v
invariant-loop-v l = l.kept
    ≡ map (λ v. stored l.vertical (column l.rows v)) (range_with_len 0 l.v)
