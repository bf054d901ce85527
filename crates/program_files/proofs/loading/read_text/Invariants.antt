use Rattle.std.proofs.Common.{◌≡◌, ◌-◌, ◌≤◌, length}
use Rattle.bolt_io.specs.Told.{Took}
use Rattle.program_files.specs.declared.loading.TheConstants.{MOST_READ}
use Rattle.program_files.proofs.loading.read_text.Given as goal

abbrev pub invariant-pieces : goal.invariant-pieces
invariant-pieces g l = record {
  took : Took (g.S.Shelf.told l.initial.shelf) (g.S.Shelf.told l.shelf) l.slot l.text.items;
  within : length l.text.items ≤ MOST_READ;
  opened : g.S.Shelf.opened l.shelf ≡ g.S.Shelf.opened l.initial.shelf;
  calm : g.S.Shelf.faults l.shelf ≡ g.S.Shelf.faults l.initial.shelf;
}

abbrev pub decreases-pieces : goal.decreases-pieces
decreases-pieces g l = MOST_READ - length l.text.items
