-- The rule over the published face.
use Rattle.std.specs.Prelude.{◌≡◌, ℕ, true, false, List}
use mathlib.Core.Option.{some}
use lib.ListN.{get_elem?}
use Rattle.board.specs.declared.kinds.Mark.{Mark}
use Rattle.board.specs.declared.face.Face.{Face}
use Rattle.board.specs.Log.{nowhere}
use Rattle.board.specs.Sheets.{sheet_of, IsRight}

-- each view that knows a board knows this one
abbrev pub Knows : Mark → List Mark → Type 0
Knows m views =
    (seat : ℕ) (v : Mark) → get_elem? views seat ≡ some v → v.known ≡ true → v ≡ m

abbrev pub Agrees : Face → List Mark → Type 0
Agrees x views = IsRight (sheet_of x) × Knows (sheet_of x).mark views

abbrev pub stranger : Mark
stranger = record { known = false; number = 0; log_name = 0; cells_name = 0; origin = nowhere }

-- the board of the face y is known afterwards, and it is the one that was known
abbrev pub Looks : Mark → Face → Face → Mark → Type 0
Looks v x y w =
    IsRight (sheet_of y) × (w ≡ (sheet_of y).mark) × (v.known ≡ true → v ≡ (sheet_of y).mark)

abbrev pub same : Mark → Mark
same v = v

abbrev pub latter : Mark → Mark → Mark
latter v w = w
