use Rattle.std.proofs.Common.{◌≡◌, ◌+◌, ◌-◌}
use Rattle.run_model.specs.Visits.{refine_visits}
use Rattle.refine_rows.specs.Progress.{IsRefinedTo}
use Rattle.pull_reeval.proofs.refine.refine_pull.Given as goal

abbrev pub invariant-loop-i : goal.invariant-loop-i
invariant-loop-i g l = record {
  refined : IsRefinedTo l.accepted g.O.OldGraph.graph (g.A.Adjacency.plain l.graph) l.history
      l.overlay l.i;
  count : g.M.Meter.counted l.meter
      ≡ g.M.Meter.counted l.initial.meter + refine_visits l.accepted g.O.OldGraph.graph
      (g.A.Adjacency.plain l.graph) (l.i - 1);
  held : g.M.Meter.held l.meter ≡ g.M.Meter.held l.initial.meter;
}
