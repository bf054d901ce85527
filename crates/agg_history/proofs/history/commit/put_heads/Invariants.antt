use Rattle.std.proofs.Common.{◌≡◌, take, length}
use Rattle.std.specs.List.{zip}
use Rattle.swaps.specs.Swaps.{put_all, places}
use Rattle.agg_history.proofs.history.commit.put_heads.Given as goal

abbrev pub invariant-loop-k : goal.invariant-loop-k
invariant-loop-k l = record {
  all : l.first ≡ record l.fn.first
      { all = put_all (take l.k (zip (places l.lists) l.heads.all)) l.fn.first.all };
  end : l.k-end ≡ length l.heads.all;
}
