use Rattle.std.proofs.Common.{◌∙◌}
use Rattle.bolt_make.proofs.DrawLemmas.{pairs_so_far, draws_so_far}
use Rattle.bolt_make.proofs.draws.draw_pairs.Goals as goal

pub loop-pair-preserved : goal.loop-pair-preserved
loop-pair-preserved c =
    let count = c.args.count in
    let i = c.loop-pair._pair in
    let x = c.loop-pair.draws.last in
    let y = c.pair.new.self.last in
    record {
      pairs = pairs_so_far c.args.vertices count i x y c.loop-pair.pairs.items
          c.push.new.self.items c.pair.result
          c.loop-pair-test.true c.pair.ensures.pair c.pair.ensures.last c.in_ok-push.ensures.items
          ∙ c.loop-pair.invariant.pairs;
      last = draws_so_far count i x y c.loop-pair-test.true c.pair.ensures.last
          ∙ c.loop-pair.invariant.last;
    }
