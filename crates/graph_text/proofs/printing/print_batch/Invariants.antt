use Rattle.std.proofs.Common.{◌≡◌, take}
use Rattle.std.specs.List.{flat_map}
use Rattle.graph_text.specs.Printed.{edit_text}
use Rattle.graph_text.proofs.printing.print_batch.Given as goal

abbrev pub invariant-loop-edit : goal.invariant-loop-edit
invariant-loop-edit l = l.text ≡ flat_map edit_text (take l.edit-index l.edits)
