use Rattle.std.proofs.Common.{◌≤◌, ◌++◌, ◌∷◌, [], List, ℕ, ap, sym, ◌∙◌}
use Rattle.refine_rows.proofs.PickLemmas.{range_next}
use Rattle.refine_rows.proofs.lists.new_vertices.Goals as goal

pub loop-v-preserved : goal.loop-v-preserved
loop-v-preserved c =
    let low : c.args.old ≤ c.loop-v.v = c.loop-v.auto.v in
    c.in_ok-push.ensures.items
    ∙ ap (λ (vs : List ℕ). vs ++ c.loop-v.v ∷ []) c.loop-v.invariant
    ∙ sym (range_next c.args.old c.loop-v.v low)
