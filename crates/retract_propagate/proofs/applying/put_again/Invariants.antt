use Rattle.std.proofs.Common.{◌≡◌, length, drop}
use Rattle.run_model.specs.Steps.{step}
use Rattle.refine_rows.specs.Progress.{vertices_put, IsRefinedWithin}
use Rattle.refine_tasks.specs.Taking.{AreTakenTo}
use Rattle.retract_propagate.proofs.applying.put_again.Given as goal

abbrev pub invariant-loop-v : goal.invariant-loop-v
invariant-loop-v g l = record {
  within : IsRefinedWithin l.program g.O.OldGraph.graph (g.A.Adjacency.plain l.graph)
      l.history l.overlay l.i;
  count : length (vertices_put l.overlay l.i) ≡ l.v-index;
  taken : AreTakenTo l.program
      (step l.program g.O.OldGraph.graph (g.A.Adjacency.plain l.graph) l.i) l.words.layout
      l.targets l.initial.seat.view.amounts l.next (drop l.v-index l.v-items) l.seat.view;
  table : l.seat.table ≡ l.initial.seat.table;
}
