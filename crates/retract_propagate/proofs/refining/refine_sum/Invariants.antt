use Rattle.std.proofs.Common.{◌≡◌, ◌+◌, ◌++◌}
use Rattle.agg_words.specs.Known.{IsClear}
use Rattle.run_model.specs.Visits.{refine_visits}
use Rattle.refine_rows.specs.Progress.{IsRefinedTo}
use Rattle.retract_propagate.specs.Refinement.{refine_amounts}
use Rattle.retract_propagate.proofs.refining.refine_sum.Given as goal

abbrev pub invariant-loop-done : goal.invariant-loop-done
invariant-loop-done g l = record {
  refined : IsRefinedTo l.accepted g.O.OldGraph.graph (g.A.Adjacency.plain l.graph) l.history
      l.overlay (l.done + 1);
  amounts : l.seat.view.amounts ≡ l.initial.seat.view.amounts
      ++ refine_amounts l.accepted g.O.OldGraph.graph (g.A.Adjacency.plain l.graph) l.done;
  visits : g.M.Meter.counted l.meter ≡ g.M.Meter.counted l.initial.meter
      + refine_visits l.accepted g.O.OldGraph.graph (g.A.Adjacency.plain l.graph) l.done;
  held : g.M.Meter.held l.meter ≡ g.M.Meter.held l.initial.meter;
  table : l.seat.table ≡ l.initial.seat.table;
  clear : IsClear l.words.layout l.seat.view;
}
