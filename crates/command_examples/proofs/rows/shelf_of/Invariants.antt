use Rattle.std.proofs.Common.{◌≡◌, []}
use Rattle.command_examples.proofs.rows.shelf_of.Given as goal

abbrev pub invariant-loop-part : goal.invariant-loop-part
invariant-loop-part l = l.shelf.shelf.told.slots ≡ []
