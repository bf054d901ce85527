-- Numbers that are drawn one after another, each from the one before.
use Rattle.std.specs.Prelude.{ℕ, zero, suc, ◌+◌, ◌*◌, ◌%◌, List, [], ◌∷◌}
use Rattle.bolt_base.specs.Graph.{Pair}

-- where the draws of a seed start
abbrev pub seeded : ℕ → ℕ
seeded seed = seed % 2147483646 + 1

-- the number that is drawn after x, from which the next one is drawn
abbrev pub drawn : ℕ → ℕ
drawn x = x * 48271 % 2147483647

-- a drawn pair of vertices below n is two draws, its source first
abbrev pub drawn_pair : (n x : ℕ) → Pair
drawn_pair n x = (drawn x % n, drawn (drawn x) % n)

-- so many drawn pairs
abbrev pub drawn_pairs : (n count x : ℕ) → List Pair
drawn_pairs n zero x = []
drawn_pairs n (suc k) x = drawn_pair n x ∷ drawn_pairs n k (drawn (drawn x))

-- the last number that was drawn for them
abbrev pub after_pairs : (count x : ℕ) → ℕ
after_pairs zero x = x
after_pairs (suc k) x = after_pairs k (drawn (drawn x))
