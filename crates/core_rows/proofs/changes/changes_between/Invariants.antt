use Rattle.std.proofs.Common.{◌≡◌, filter, map}
use Rattle.std.specs.List.{range_with_len}
use Rattle.run_model.specs.Logs.{differs}
use Rattle.core_rows.proofs.EntryLemmas.{change_in}
use Rattle.core_rows.proofs.changes.changes_between.Given as goal

abbrev pub invariant-loop-v : goal.invariant-loop-v
invariant-loop-v l = l.changes
    ≡ map (change_in l.new) (filter (differs l.old l.new) (range_with_len 0 l.v))
