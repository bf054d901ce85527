use Rattle.std.proofs.Common.{sym, subst, length, ℕ, ◌<◌, arith}
use Rattle.swaps.proofs.SwapLemmas.{swapped_more}
use Rattle.swaps.proofs.swap_in.Goals as goal

pub loop-i-preserved : goal.loop-i-preserved
loop-i-preserved g c =
    let s = c.loop-i.invariant.swapped in
    let below : c.loop-i.i < length c.args.items.now.items = omega
    (arith, c.loop-i.invariant.count) in
    let here : c.index_mut.result.now.0 < length c.loop-i.all.items =
    subst (λ (a : ℕ × g.row.X.Denot). a.0 < length c.loop-i.all.items)
    (sym c.index_mut.ensures.value)
    (s.inside c.loop-i.i c.index_mut.result.now (omega (arith, s.count))) in
    record {
      swapped = rw (c.swap.ensures.x_after, c.swap.ensures.y_after)
          (swapped_more c.loop-i.i c.loop-i.all.items c.loop-i.items.items c.args.all.now.items
          c.args.items.now.items c.index_mut.result.now.0 c.index_mut.result.now.1
          c.index_mut-in-loop-i.result.now
          s below c.index_mut.ensures.value c.index_mut-in-loop-i.ensures.value here);
      count = c.loop-i.invariant.count;
    }
