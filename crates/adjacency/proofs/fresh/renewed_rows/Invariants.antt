use Rattle.std.proofs.Common.{◌≡◌, ℕ, length, Some}
use Rattle.std.specs.Ordering.{nat_cmp}
use Rattle.std.specs.BTreeMap.{get}
use Rattle.swaps.specs.Swaps.{put_all, AreInside}
use Rattle.adjacency.specs.declared.row_change.RowChange.{RowChange}
use Rattle.adjacency.specs.Rows.{full_of}
use Rattle.adjacency.specs.DraftedBy.{drafted_by, IsDraft}
use Rattle.adjacency.proofs.fresh.renewed_rows.Given as goal

abbrev pub invariant-loop-at : goal.invariant-loop-at
invariant-loop-at g l = record {
  all : (extra : ℕ) → drafted_by (full_of l.base extra) (put_all l.fresh (full_of l.base extra))
      l.changes.entries ≡ drafted_by (full_of l.base extra) (full_of l.base extra)
      l.initial.changes.entries;
  inside : (extra : ℕ) → IsDraft (full_of l.base extra) l.initial.changes
      → AreInside (length (full_of l.base extra)) l.fresh;
  left : (u : ℕ) (c : RowChange) → get nat_cmp l.changes u ≡ Some c
      → get nat_cmp l.initial.changes u ≡ Some c;
}

abbrev pub decreases-loop-at : goal.decreases-loop-at
decreases-loop-at g l = length l.changes.entries
