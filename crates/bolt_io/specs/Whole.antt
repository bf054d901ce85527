-- Why a file wasn't read to its end.
use Rattle.std.specs.Prelude.{◌≡◌, ℕ, ◌<◌, List, length, Option}
use Rattle.bolt_io.specs.Faults.{Rose}
use Rattle.bolt_io.specs.Told.{Told, Took}
use Rattle.bolt_io.specs.declared.whole.ReadFault.{ReadFault}
use Rattle.bolt_io.specs.declared.whole.ReadFault.TheVariants.{Shelf, Turns, Memory}
use Rattle.bolt_io.specs.declared.whole.TheConstants.{MOST_BYTES}

-- a fact of the number of bytes that were taken, where the file is too long
abbrev pub IfTurns : (ℕ → Type 0) → ReadFault → Type 0
IfTurns P (Shelf fault) = Unit {0}
IfTurns P (Turns taken) = P taken
IfTurns P Memory = Unit {0}

-- the shelf's count rose where the shelf failed, and else stayed
abbrev pub BlamesShelf : ℕ → ℕ → ReadFault → Type 0
BlamesShelf old new (Shelf fault) = Rose old new
BlamesShelf old new (Turns taken) = new ≡ old
BlamesShelf old new Memory = new ≡ old

-- so many bytes were taken where the reading stopped: as many as are at most, where another read is
-- needed, and else fewer
abbrev pub StopsAt : ℕ → ReadFault → Type 0
StopsAt count (Shelf fault) = count < MOST_BYTES
StopsAt count (Turns taken) = (count ≡ MOST_BYTES) × (taken ≡ count)
StopsAt count Memory = count < MOST_BYTES

-- the bytes that were taken from slot k where its reading stopped
abbrev pub StopsAfter : Option Told → Option Told → ℕ → ReadFault → Type 0
StopsAfter old new k fault =
    (taken : List ℕ) × Took old new k taken × StopsAt (length taken) fault
