use Rattle.std.proofs.Common.{◌∙◌}
use Rattle.bolt_make.proofs.EditLemmas.{batches_so_far}
use Rattle.bolt_make.proofs.stream.draw_batches.Goals as goal

pub loop-batch-preserved : goal.loop-batch-preserved
loop-batch-preserved c =
    batches_so_far c.args.vertices c.args.pairs.now c.args.size c.args.count c.loop-batch._batch
    c.loop-batch.graph c.draw_batch.new.graph c.loop-batch.draws.last c.draw_batch.new.draws.last
    c.in_ok-draw_batch.field-0 c.loop-batch.batches c.push.new.self c.loop-batch-test.true
    c.in_ok-draw_batch.ensures.edits c.in_ok-draw_batch.ensures.graph
    c.in_ok-draw_batch.ensures.last
    c.in_ok-push.ensures.ok
    ∙ c.loop-batch.invariant
