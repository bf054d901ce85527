use Rattle.std.proofs.Common.{◌≡◌, ◌+◌, ◌≤◌, take}
use Rattle.bolt_base.specs.Graph.{vertices}
use Rattle.edge_map.specs.Grew.{AreMarked}
use Rattle.edge_map.specs.Walks.{Walked}
use Rattle.edge_map.proofs.item.make_dirty.Given as goal

abbrev pub invariant-loop-k : goal.invariant-loop-k
invariant-loop-k g l = record {
  table : l.seat.table ≡ l.initial.seat.table;
  units : l.seat.view.units ≡ l.initial.seat.view.units;
  held : g.M.Meter.held l.meter ≡ g.M.Meter.held l.initial.meter;
  visits : g.M.Meter.counted l.meter ≡ g.M.Meter.counted l.initial.meter + l.k;
  least : l.count ≤ l.total;
  most : l.total ≤ l.count + l.k;
  marked : AreMarked (vertices (g.A.Adjacency.plain l.graph)) l.seat.view l.total l.targets;
  walked : Walked l.plan.program.now (g.A.Adjacency.plain l.graph) l.plan.tasks.now l.place l.next
      l.k l.initial.seat.view l.seat.view (take l.count l.initial.targets) (take l.total l.targets);
}
