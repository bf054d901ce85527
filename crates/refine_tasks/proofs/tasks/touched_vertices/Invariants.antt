use Rattle.std.proofs.Common.{◌≡◌, map, take}
use Rattle.bolt_base.specs.declared.edge.Touched.{Touched}
use Rattle.refine_tasks.proofs.tasks.touched_vertices.Given as goal

abbrev pub invariant-loop-source : goal.invariant-loop-source
invariant-loop-source l =
    l.us.items ≡ map (λ (t : Touched). t.vertex) (take l.source-index l.touched)
