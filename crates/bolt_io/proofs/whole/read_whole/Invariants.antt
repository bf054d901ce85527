use Rattle.std.proofs.Common.{◌≡◌, ◌-◌, ◌≤◌, length}
use Rattle.bolt_io.specs.Told.{Took}
use Rattle.bolt_io.specs.declared.whole.TheConstants.{MOST_BYTES}
use Rattle.bolt_io.proofs.whole.read_whole.Given as goal

abbrev pub invariant-pieces : goal.invariant-pieces
invariant-pieces g l = record {
  took : Took (g.S.Shelf.told l.initial.shelf) (g.S.Shelf.told l.shelf) l.slot l.bytes.items;
  within : length l.bytes.items ≤ MOST_BYTES;
  opened : g.S.Shelf.opened l.shelf ≡ g.S.Shelf.opened l.initial.shelf;
  calm : g.S.Shelf.faults l.shelf ≡ g.S.Shelf.faults l.initial.shelf;
}

abbrev pub decreases-pieces : goal.decreases-pieces
decreases-pieces g l = MOST_BYTES - length l.bytes.items
