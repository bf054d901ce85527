use Rattle.std.proofs.Common.{◌≡◌, ℤ, List, length}
use Rattle.std.specs.List.{All}
use Rattle.agg_history.proofs.tests.add_row.Given as goal

abbrev pub invariant-loop-agg : goal.invariant-loop-agg
invariant-loop-agg g l = record {
  aggs : All (λ (x : List ℤ). length x ≡ 1) l.aggs.items;
  vals : All (λ (x : List ℤ). length x ≡ 1) l.vals.items;
  same : length l.vals.items ≡ length l.aggs.items;
}
