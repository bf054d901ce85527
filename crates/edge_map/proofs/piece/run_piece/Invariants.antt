use Rattle.std.proofs.Common.{◌≡◌, ◌+◌, ◌≤◌, take}
use Rattle.bolt_base.specs.Graph.{vertices}
use Rattle.edge_map.specs.Additions.{gifts_of_works, adds_of_gifts, ends_of_gifts, visits_of}
use Rattle.edge_map.specs.Grew.{Grew, AreMarked}
use Rattle.edge_map.proofs.piece.run_piece.Given as goal

abbrev pub invariant-loop-work : goal.invariant-loop-work
invariant-loop-work g l = let done = take l.work-index l.all in let given = gifts_of_works
    l.plan.program.now (g.A.Adjacency.plain l.graph) l.plan.tasks.now done in record {
      table : l.seat.table ≡ l.initial.seat.table;
      units : l.seat.view.units ≡ l.initial.seat.view.units;
      held : g.M.Meter.held l.meter ≡ g.M.Meter.held l.initial.meter;
      visits : g.M.Meter.counted l.meter
          ≡ g.M.Meter.counted l.initial.meter + visits_of l.plan.tasks.now done;
      count : l.count ≤ visits_of l.plan.tasks.now done;
      marked : AreMarked (vertices (g.A.Adjacency.plain l.graph)) l.seat.view l.count l.targets;
      grew : Grew l.initial.seat.view l.seat.view (adds_of_gifts l.plan.program.now given)
          (ends_of_gifts given) (take l.count l.targets);
    }
