-- Items with places in a list: the list with each in its place, and back again.
use Rattle.std.specs.Prelude.{ℕ, ◌<◌, List, [], ◌∷◌, map, slice_set}
use Rattle.std.specs.List.{All}

-- the list with each item in its place, put there in order
abbrev pub put_all : {X : Type 0} → List (ℕ × X) → List X → List X
put_all [] xs = xs
put_all (item ∷ items) xs = put_all items (slice_set xs item.0 item.1)

-- the list with each item in its place, put there the last first
abbrev pub undo : {X : Type 0} → List (ℕ × X) → List X → List X
undo [] xs = xs
undo (item ∷ items) xs = slice_set (undo items xs) item.0 item.1

-- the places of the items, in order
abbrev pub places : {X : Type 0} → List (ℕ × X) → List ℕ
places items = map (λ item. item.0) items

-- of each place the item that f gives it
abbrev pub placed : {X : Type 0} → (ℕ → X) → List ℕ → List (ℕ × X)
placed f vs = map (λ v. (v, f v)) vs

-- each item has a place below n
abbrev pub AreInside : {X : Type 0} → ℕ → List (ℕ × X) → Type 0
AreInside n items = All (λ item. item.0 < n) items
