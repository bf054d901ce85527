use Rattle.std.proofs.Common.{◌≡◌, drop}
use Rattle.bolt_io.specs.Told.{has_file}
use Rattle.bolt_io.proofs.calm_shelf.CalmShelf.has.Given as goal

abbrev pub invariant-loop-file : goal.invariant-loop-file
invariant-loop-file l = has_file (drop l.file-index l.file-items) l.name
    ≡ has_file l.file-items l.name
