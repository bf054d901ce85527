use Rattle.std.proofs.Common.{◌≡◌, filter, length, take}
use Rattle.run_model.specs.Steps.{is_target, step}
use Rattle.pull_reeval.specs.Iterating.{aggs_of}
use Rattle.pull_reeval.proofs.aggregates.aggregates_again.Given as goal

abbrev pub invariant-loop-v : goal.invariant-loop-v
invariant-loop-v g l = record {
  aggs : l.aggs.items
      ≡ aggs_of l.program (g.A.Adjacency.plain l.graph) l.i (take l.v-index l.applied);
  place : l.place
      ≡ length (filter (is_target l.program (step l.program g.O.OldGraph.graph
      (g.A.Adjacency.plain l.graph) l.i)) (take l.v-index l.applied));
}
