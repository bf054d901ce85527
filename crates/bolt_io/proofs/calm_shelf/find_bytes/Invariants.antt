use Rattle.std.proofs.Common.{◌≡◌, drop}
use Rattle.bolt_io.specs.Told.{bytes_of}
use Rattle.bolt_io.proofs.calm_shelf.find_bytes.Given as goal

abbrev pub invariant-loop-file : goal.invariant-loop-file
invariant-loop-file l = bytes_of (drop l.file-index l.files) l.name ≡ bytes_of l.files l.name
