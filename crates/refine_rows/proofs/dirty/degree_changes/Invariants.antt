use Rattle.std.proofs.Common.{◌≡◌, filter, map, take}
use Rattle.bolt_base.specs.Differs.{degree_changed}
use Rattle.bolt_base.specs.declared.edge.Touched.{Touched}
use Rattle.refine_rows.specs.Picked.{old_only}
use Rattle.refine_rows.proofs.dirty.degree_changes.Given as goal

abbrev pub invariant-loop-touched : goal.invariant-loop-touched
invariant-loop-touched g l = l.us.items
    ≡ filter (old_only g.O.OldGraph.graph
    (degree_changed g.O.OldGraph.graph (g.A.Adjacency.plain l.graph)))
    (map (λ (t : Touched). t.vertex) (take l.touched-index l.touched-items))
