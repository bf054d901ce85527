use Rattle.std.proofs.Common.{◌≡◌, ◌*◌, ◌≤◌, length, take}
use Rattle.std.specs.Prelude.{sum_by}
use Rattle.core_rows.proofs.kept.kept_count.Given as goal

abbrev pub invariant-loop-entries : goal.invariant-loop-entries
invariant-loop-entries l = record {
  sum : l.count ≡ sum_by (λ entries. length entries) (take l.entries-index l.kept);
  few : l.count ≤ 64 * l.entries-index;
}
