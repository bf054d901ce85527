-- Numbers as words.
use Rattle.std.specs.Prelude.{ℕ, ℤ, pos, neg_ℤ, ◌^◌, ◌==◌, ◌&&◌, nat_lt, nat_le, if◌then◌else◌}
use Rattle.std.specs.Prelude.{List, drop, slice_index, Option, Some, None}
use Rattle.lexical.specs.Numbers.{is_decimal, decimal_value}

-- digits whose number is below 2^32
unfoldable pub vertex_word : List ℕ → Option ℕ
vertex_word word =
    if is_decimal word && nat_lt (decimal_value word) (2 ^ 32) then Some (decimal_value word) else
    None

unfoldable pub positive_word : List ℕ → Option ℤ
positive_word word =
    if is_decimal word && nat_lt (decimal_value word) (2 ^ 63) then Some (pos (decimal_value word))
    else None

unfoldable pub negative_word : List ℕ → Option ℤ
negative_word digits =
    if is_decimal digits && nat_le (decimal_value digits) (2 ^ 63) then Some
    (neg_ℤ (pos (decimal_value digits))) else None

-- an optional `-` and digits whose number fits an i64
abbrev pub whole_word : List ℕ → Option ℤ
whole_word word =
    if slice_index word 0 == 45 then negative_word (drop 1 word) else positive_word word
