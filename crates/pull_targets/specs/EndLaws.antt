-- Laws of ends.
use Rattle.std.specs.Prelude.{◌≡◌, ◌≤◌, ℕ, []}
use Rattle.bolt_base.specs.Change.{added, removed}
use Rattle.bolt_base.specs.Graph.{Graph, IsGood, vertices}
use Rattle.bolt_base.specs.declared.limits.Limits.{Limits}
use Rattle.vertex_expr.specs.declared.program.ProgramEntries.{ProgramEntries}
use Rattle.run_model.specs.Steps.{Step, active, dirty, tail_targets, targets}
use Rattle.pull_targets.specs.Ends.{AreThere, ends}

-- the ends of changed edges and of those out of dirty vertices are the targets
abbrev pub EndsAreTargets : Type 0
EndsAreTargets = (p : ProgramEntries) (s : Step)
    → ends s.new_graph (removed s.old_graph s.new_graph) (added s.old_graph s.new_graph)
    (dirty p s) ≡ targets p s

-- and past the cut those of the edges out of active vertices
abbrev pub EndsAreTailTargets : Type 0
EndsAreTailTargets = (p : ProgramEntries) (h : Graph) (i : ℕ)
    → ends h [] [] (active p h i) ≡ tail_targets p h i

-- all these ends are vertices of the new graph, and so are dirty vertices
abbrev pub EndsAreThere : Type 0
EndsAreThere = (l : Limits) (p : ProgramEntries) (s : Step)
    → vertices s.old_graph ≤ vertices s.new_graph → IsGood l s.old_graph → IsGood l s.new_graph
    → AreThere s.new_graph (removed s.old_graph s.new_graph) (added s.old_graph s.new_graph)
    (dirty p s)
