use Rattle.std.proofs.Common.{◌∙◌}
use Rattle.bolt_make.proofs.EditLemmas.{edits_so_far, graph_so_far, states_so_far}
use Rattle.bolt_make.proofs.stream.draw_batch.Goals as goal

pub loop-number-preserved : goal.loop-number-preserved
loop-number-preserved c =
    let n = c.args.vertices in
    let pairs = c.args.pairs.now in
    let size = c.args.size in
    let i = c.loop-number.number in
    let g = c.loop-number.graph in
    let h = c.turn.new.self in
    let x = c.loop-number.draws.last in
    let y = c.edit_pair-pair.new.draws.last in
    let p = c.edit_pair-pair.result in
    let e = c.in_ok-edit.edit in
    let more = c.loop-number-test.true in
    let pair = c.edit_pair-pair.ensures.pair in
    let edit = c.in_ok-edit.ensures.edit in
    let graph = c.in_ok-edit.ensures.graph in
    let last = c.edit_pair-pair.ensures.last in
    record {
      edits = edits_so_far n pairs size i g h x y p e more pair edit graph last c.loop-number.edits
          c.push.new.self
          c.in_ok-push.ensures.ok
          ∙ c.loop-number.invariant.edits;
      graph = graph_so_far n pairs size i g h x y p e more pair edit graph last
          ∙ c.loop-number.invariant.graph;
      last = states_so_far size i x y more last ∙ c.loop-number.invariant.last;
    }
