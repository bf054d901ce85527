use Rattle.std.proofs.Common.{◌≡◌, ◌<◌, ◌≤◌, ℕ, IsSome}
use Rattle.agg_history.specs.Puts.{put_at}
use Rattle.agg_history.proofs.tests.put_all.Given as goal

abbrev pub invariant-loop-i : goal.invariant-loop-i
invariant-loop-i l = record {
  same : l.overlay ≡ record l.fn.overlay { puts = l.overlay.puts };
  new : (j u : ℕ) → j < l.i → l.old ≤ u → u < l.fn.overlay.vertices
      → IsSome (put_at l.overlay.puts j u);
}
