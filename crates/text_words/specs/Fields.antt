-- The words of an entry's line as fields, from left to right: each is judged whole, and the first
-- that can't stand where it stands refuses the line.
use Rattle.std.specs.Prelude.{ℕ, ℤ, pos, neg_ℤ, ◌+◌, ◌==◌, ◌&&◌, nat_lt, nat_le, int_le, Bool}
use Rattle.std.specs.Prelude.{if◌then◌else◌, List, [], ◌∷◌, length, drop, slice_index, Option, Some}
use Rattle.std.specs.Prelude.{None, Result, Ok, Err}
use Rattle.std.specs.Option.{option_map}
use Rattle.std.specs.List.{prefix_len, list_all}
use Rattle.vertex_expr.specs.Names.{is_name}
use Rattle.lexical.specs.Words.{Word, words_from}
use Rattle.lexical.specs.Numbers.{is_decimal, capped_value}
use Rattle.text_words.specs.declared.error.LangError.{LangError}
use Rattle.text_words.specs.declared.error.LangError.TheVariants.{Syntax, TooBig}

-- an answer, and what is made of it
infixl 10 ◌>>=◌
abbrev pub ◌>>=◌ : {A B : Type 0} → Result A LangError → (A → Result B LangError)
    → Result B LangError
(Ok x) >>= f = f x
(Err e) >>= f = Err e

abbrev pub is_ascii : ℕ → Bool
is_ascii b = nat_lt b 128

-- a word with a byte outside ASCII is refused at that byte
abbrev pub ascii_word : Word → Result Word LangError
ascii_word w =
    if list_all is_ascii w.bytes then Ok w else Err (Syntax (w.at + prefix_len is_ascii w.bytes))

-- a line that has no further word is refused at its end
abbrev pub first_word : ℕ → List Word → Result Word LangError
first_word stop [] = Err (Syntax stop)
first_word stop (w ∷ ws) = ascii_word w

-- the next word of a line, from a place on
unfoldable pub word_at : List ℕ → ℕ → Result Word LangError
word_at line from = first_word (length line) (words_from 0 from (drop from line))

-- the place behind a word
abbrev pub word_end : Word → ℕ
word_end w = w.at + length w.bytes

abbrev pub none_more : List Word → Result (Unit {0}) LangError
none_more [] = Ok tt
none_more (w ∷ ws) = ascii_word w >>= λ v. Err (Syntax v.at)

-- nothing may stand in the line from a place on
unfoldable pub ended_at : List ℕ → ℕ → Result (Unit {0}) LangError
ended_at line from = none_more (words_from 0 from (drop from line))

-- one or more digits, as their number, capped at the greatest u64
unfoldable pub unsigned_of : List ℕ → Option ℕ
unsigned_of w = if is_decimal w then Some (capped_value w) else None

-- the same with an optional - directly before the digits
unfoldable pub whole_of : List ℕ → Option ℤ
whole_of w =
    if slice_index w 0 == 45 then option_map (λ n. neg_ℤ (pos n)) (unsigned_of (drop 1 w)) else
    option_map (λ n. pos n) (unsigned_of w)

abbrev pub in_bounds : ℕ → ℕ → Word → Option ℕ → Result (ℕ × ℕ) LangError
in_bounds low high w None = Err (Syntax w.at)
in_bounds low high w (Some n) =
    if nat_le low n && nat_le n high then Ok (n, word_end w) else Err (TooBig w.at)

-- a number from low to high, and the place behind it
unfoldable pub number_at : List ℕ → ℕ → ℕ → ℕ → Result (ℕ × ℕ) LangError
number_at line from low high = word_at line from >>= λ w. in_bounds low high w (unsigned_of w.bytes)

abbrev pub in_range : ℤ → ℤ → Word → Option ℤ → Result (ℤ × ℕ) LangError
in_range low high w None = Err (Syntax w.at)
in_range low high w (Some z) =
    if int_le low z && int_le z high then Ok (z, word_end w) else Err (TooBig w.at)

-- a whole number from low to high, and the place behind it
unfoldable pub signed_at : List ℕ → ℕ → ℤ → ℤ → Result (ℤ × ℕ) LangError
signed_at line from low high = word_at line from >>= λ w. in_range low high w (whole_of w.bytes)

unfoldable pub name_at : List ℕ → ℕ → Result Word LangError
name_at line from = word_at line from >>= λ w. if is_name w.bytes then Ok w else Err (Syntax w.at)
