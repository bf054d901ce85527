-- Decimal numbers.
use Rattle.std.specs.Prelude.{ℕ, ◌+◌, ◌-◌, ◌*◌, ◌^◌, min, ◌==◌, Bool, ◌&&◌, not, List, length}
use Rattle.std.specs.List.{list_all, fold}
use Rattle.std.specs.Char.{is_ascii_digit}

-- one or more decimal digits
abbrev pub is_decimal : List ℕ → Bool
is_decimal word = not (length word == 0) && list_all is_ascii_digit word

-- the number that digits make
abbrev pub decimal_value : List ℕ → ℕ
decimal_value digits = fold (λ n b. n * 10 + (b - 48)) 0 digits

-- that number, or the greatest u64 where it is greater
abbrev pub capped_value : List ℕ → ℕ
capped_value digits = min (decimal_value digits) (2 ^ 64 - 1)
