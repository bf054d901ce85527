-- What a shelf of real files tells.
use Rattle.std.specs.Prelude.{Option, None}
use Rattle.bolt_io.specs.Told.{Told}

-- nothing of its files
abbrev pub untold : Option Told
untold = None
