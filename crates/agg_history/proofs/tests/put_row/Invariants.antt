use Rattle.std.proofs.Common.{◌≡◌, ◌<◌, ◌≤◌, ℕ, IsSome}
use Rattle.agg_history.specs.Puts.{put_at}
use Rattle.agg_history.proofs.tests.put_row.Given as goal

abbrev pub invariant-loop-v : goal.invariant-loop-v
invariant-loop-v l = record {
  same : l.overlay ≡ record l.fn.overlay { puts = l.overlay.puts };
  end : l.v-end ≡ l.fn.overlay.vertices;
  here : (u : ℕ) → l.old ≤ u → u < l.v → IsSome (put_at l.overlay.puts l.i u);
  others : (j u : ℕ) → IsSome (put_at l.fn.overlay.puts j u) → IsSome (put_at l.overlay.puts j u);
}
