use Rattle.std.proofs.Common.{◌≡◌, ◌≤◌}
use Rattle.edge_map.specs.Forks.{part_room}
use Rattle.edge_map.proofs.piece.room_of.Given as goal

abbrev pub invariant-loop-piece : goal.invariant-loop-piece
invariant-loop-piece g l = record {
  within : l.from ≤ l.piece;
  room : l.room ≡ part_room (g.A.Adjacency.plain l.graph) l.plan l.from l.piece;
}
