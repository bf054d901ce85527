-- What a sink tells of the bytes that were written.
use Rattle.std.specs.Prelude.{◌≡◌, ℕ, ◌≤◌, List, ◌++◌, length, take, Option}
use Rattle.std.specs.Option.{option_map}

-- the text was appended
abbrev pub Wrote : Option (List ℕ) → Option (List ℕ) → List ℕ → Type 0
Wrote old new text = new ≡ option_map (λ w. w ++ text) old

-- a prefix of the text was appended
abbrev pub WrotePart : Option (List ℕ) → Option (List ℕ) → List ℕ → Type 0
WrotePart old new text = (n : ℕ) × (n ≤ length text) × Wrote old new (take n text)
