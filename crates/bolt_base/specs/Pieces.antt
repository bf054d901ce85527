-- Work cut into pieces, one for each worker.
use Rattle.std.specs.Prelude.{ℕ, ◌+◌, ◌*◌, ◌/◌, List, length, slice_range}

-- where piece p of w begins among t items
abbrev pub cut : ℕ → ℕ → ℕ → ℕ
cut p t w = p * t / w

-- the items of the pieces from p up to, and without, q
abbrev pub pieces : {X : Type 0} → List X → ℕ → ℕ → ℕ → List X
pieces xs w p q = slice_range xs (cut p (length xs) w) (cut q (length xs) w)

-- the items of piece p
abbrev pub piece : {X : Type 0} → List X → ℕ → ℕ → List X
piece xs w p = pieces xs w p (p + 1)
