use Rattle.std.proofs.Common.{◌≡◌, ℕ, ◌+◌, ◌-◌, vec_len}
use Rattle.graph_text.specs.EdgeIndex.{has_at, count_at}
use Rattle.graph_text.proofs.edge_set.cover_rows.Given as goal

abbrev pub invariant-rows : goal.invariant-rows
invariant-rows l = record {
  held : (u v : ℕ) → has_at l.rows.items u v ≡ has_at l.initial.rows.items u v;
  counts : (u : ℕ) → count_at l.rows.items u ≡ count_at l.initial.rows.items u;
}

abbrev pub decreases-rows : goal.decreases-rows
decreases-rows l = l.src + 1 - vec_len l.rows
