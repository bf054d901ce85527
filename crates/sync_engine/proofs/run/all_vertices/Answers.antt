use Rattle.std.proofs.Common.{◌∷◌, [], ◌++◌, sym, ◌∙◌}
use Rattle.sync_engine.proofs.Counts.{range_more}
use Rattle.sync_engine.proofs.run.all_vertices.Goals as goal

pub loop-v-preserved : goal.loop-v-preserved
loop-v-preserved g c =
    c.in_ok-push.ensures.items ∙ (λ j. c.loop-v.invariant j ++ c.loop-v.v ∷ [])
    ∙ sym (range_more c.loop-v.v)
