-- The tokens of a line, with their places.
use Rattle.std.specs.Prelude.{ℕ, zero, suc, ◌+◌, ◌-◌, ◌==◌, ◌&&◌, Bool, false, if◌then◌else◌, List}
use Rattle.std.specs.Prelude.{[], ◌∷◌, Option, Some, None}
use Rattle.std.specs.List.{take_while, prefix_len}
use Rattle.std.specs.Char.{is_ascii_digit, is_ascii_lowercase}
use Rattle.vertex_expr.specs.Names.{is_name_byte}
use Rattle.lexical.specs.Bytes.{is_blank}
use Rattle.lexical.specs.Numbers.{capped_value}
use Rattle.text_words.specs.Token.{Token, number, word, at_most, dash, mark}

-- the number of the digits in front
abbrev pub front_number : List ℕ → ℕ
front_number bs = capped_value (take_while is_ascii_digit bs)

-- that number, where there is a digit in front
abbrev pub number_behind : List ℕ → Option ℕ
number_behind bs = if prefix_len is_ascii_digit bs == 0 then None else Some (front_number bs)

abbrev pub begins_equal : List ℕ → Bool
begins_equal [] = false
begins_equal (b ∷ bs) = b == 61

-- The token that begins with a byte before these bytes, and how many bytes it has: the longest run
-- of digits, or of a letter a to z
-- and what goes on as a name; <= ; or a single byte. A - carries the number directly behind it,
-- which is the next token too.
unfoldable pub first_token : ℕ → List ℕ → Token × ℕ
first_token b bs =
    if is_ascii_digit b then (number (front_number (b ∷ bs)), prefix_len is_ascii_digit (b ∷ bs))
    else if is_ascii_lowercase b then
    (word (take_while is_name_byte (b ∷ bs)), prefix_len is_name_byte (b ∷ bs))
    else if b == 45 then (dash (number_behind bs), 1)
    else if (b == 60) && begins_equal bs then (at_most, 2)
    else (mark b, 1)

-- The tokens of the bytes from a place on, behind bytes that an earlier token took.
-- A token begins at each byte that is no blank and belongs to no earlier token.
abbrev pub tokens_from : (taken at : ℕ) → List ℕ → List (Token × ℕ)
tokens_from taken at [] = []
tokens_from (suc k) at (b ∷ bs) = tokens_from k (at + 1) bs
tokens_from zero at (b ∷ bs) =
    if is_blank b then tokens_from 0 (at + 1) bs else ((first_token b bs).0, at)
    ∷ tokens_from ((first_token b bs).1 - 1) (at + 1) bs
