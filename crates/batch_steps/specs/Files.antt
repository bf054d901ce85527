-- The files that a command reads.
use Rattle.std.specs.Prelude.{ℕ, Bool, true, List, length}

-- the bytes of the file of each name
abbrev pub Content : Type 0
Content = List ℕ → List ℕ

-- a file that a command reads: its name, how many of its bytes it is read far, and whether it is
-- read to its end
pub record Named : Type 0 where
  pub name : List ℕ
  pub far : ℕ
  pub to_end : Bool

-- a stream is read to its end
abbrev pub stream_file : Content → List ℕ → Named
stream_file c name = record { name = name; far = length (c name); to_end = true }
