use Rattle.std.proofs.Common.{◌≡◌, map, take, get_or}
use Rattle.bolt_base.specs.Keep.{no_entry}
use Rattle.core_rows.proofs.kept.column.Given as goal

abbrev pub invariant-loop-row : goal.invariant-loop-row
invariant-loop-row l = l.entries.items
    ≡ map (λ row. get_or row l.v no_entry) (take l.row-index l.rows)
