-- Division over whole numbers.
use Rattle.std.specs.Prelude.{ℕ, ℤ, pos, negsuc, ◌/◌, suc, neg_ℤ}

-- the greatest whole number that is at most x / d, at d above 0
abbrev pub floor_by : ℤ → ℕ → ℤ
floor_by (pos a) d = pos (a / d)
floor_by (negsuc a) d = negsuc (a / d)

-- the same at any d but 0
abbrev pub floor_div : ℤ → ℤ → ℤ
floor_div x (pos d) = floor_by x d
floor_div x (negsuc d) = floor_by (neg_ℤ x) (suc d)
