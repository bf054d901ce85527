use Rattle.std.proofs.Common.{◌≡◌, map, take}
use Rattle.run_model.specs.Steps.{step}
use Rattle.refine_tasks.specs.Sides.{side_of}
use Rattle.refine_tasks.proofs.sources.sources_of.Given as goal

abbrev pub invariant-loop-u : goal.invariant-loop-u
invariant-loop-u g l = l.sources.items
    ≡ map (side_of l.program
    (step l.program g.O.OldGraph.graph (g.A.Adjacency.plain l.graph) l.i)) (take l.u-index l.us)
