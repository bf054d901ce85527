use Rattle.std.proofs.Common.{◌≡◌, ℕ, filter, map, take}
use Rattle.run_model.specs.Steps.{step, value_changed}
use Rattle.refine_rows.specs.Picked.{old_only}
use Rattle.refine_rows.proofs.dirty.changed_vertices.Given as goal

abbrev pub invariant-loop-u : goal.invariant-loop-u
invariant-loop-u g l = l.us.items
    ≡ filter (old_only g.O.OldGraph.graph (value_changed
    (step l.program g.O.OldGraph.graph (g.A.Adjacency.plain l.graph) l.i)))
    (map (λ (u : ℕ). u) (take l.u-index l.put))
