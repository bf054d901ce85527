use Rattle.std.proofs.Common.{◌≡◌, ◌++◌, map, take}
use Rattle.run_model.specs.Additions.{amounts_of}
use Rattle.run_model.specs.Rows.{contribution}
use Rattle.core_adds.specs.Sides.{removed_gift}
use Rattle.core_adds.proofs.items.push_each_removed.Given as goal

abbrev pub invariant-loop-e : goal.invariant-loop-e
invariant-loop-e g l = l.all
    ≡ l.initial.all ++ map (λ e. amounts_of l.program
    (removed_gift (contribution l.program (g.A.Adjacency.plain l.graph) l.vals) e))
    (take l.e-index l.edges)
