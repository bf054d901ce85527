use Rattle.std.proofs.Common.{◌≡◌, ◌≤◌, ◌+◌, ◌-◌, ◌++◌, length, drop}
use Rattle.refine_rows.proofs.MergeLemmas.{merged}
use Rattle.refine_rows.proofs.merging.merge.Given as goal

abbrev pub invariant-loop-i : goal.invariant-loop-i
invariant-loop-i l = record {
  left : l.i ≤ length l.xs;
  right : l.j ≤ length l.ys;
  rest : l.all.items ++ merged (drop l.i l.xs) (drop l.j l.ys) ≡ merged l.xs l.ys;
}

abbrev pub decreases-loop-i : goal.decreases-loop-i
decreases-loop-i l = (length l.xs - l.i) + (length l.ys - l.j)
