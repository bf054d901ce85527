use Rattle.std.proofs.Common.{◌≡◌, take}
use Rattle.board.specs.Halls.{with_changes_in}
use Rattle.board.proofs.places.Places.put_all.Given as goal

abbrev pub invariant-loop-change : goal.invariant-loop-change
invariant-loop-change l = record {
  values : l.self.values ≡ with_changes_in l.initial.self.width l.initial.self.room
      l.initial.self.values (take l.change-index l.changes);
  room : l.self.room ≡ l.initial.self.room;
  width : l.self.width ≡ l.initial.self.width;
}
