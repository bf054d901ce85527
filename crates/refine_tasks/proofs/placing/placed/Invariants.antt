use Rattle.std.proofs.Common.{◌≡◌, map, take}
use Rattle.std.specs.List.{All}
use Rattle.edge_map.specs.declared.tasks.TaskEdge.{TaskEdge}
use Rattle.refine_tasks.specs.Sides.{IsPlacedIn}
use Rattle.refine_tasks.proofs.placing.placed.Given as goal

abbrev pub invariant-loop-edge : goal.invariant-loop-edge
invariant-loop-edge l = record {
  edges : map (λ (x : TaskEdge). x.edge) l.tasks.items ≡ take l.edge-index l.edges;
  placed : All (IsPlacedIn l.us) l.tasks.items;
}
