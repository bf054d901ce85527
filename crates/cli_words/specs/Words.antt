-- The words of a command line, by their places, counted from 1.
use Rattle.std.specs.Prelude.{ℕ, ◌-◌, ◌^◌, ◌==◌, ◌&&◌, Bool, true, false, not, nat_eq, nat_lt}
use Rattle.std.specs.Prelude.{nat_le, if◌then◌else◌}
use Rattle.std.specs.Prelude.{List, [], map, length, take, drop, slice_index_or, String}
use Rattle.std.specs.Prelude.{string_bytes, codes}
use Rattle.std.specs.Prelude.{Option, Some, None, is_some, Result, Ok, Err}
use Rattle.std.specs.Str.{bytes_eq}
use Rattle.std.specs.List.{starts_with}
use Rattle.lexical.specs.Numbers.{is_decimal, decimal_value}
use Rattle.bolt_ship.specs.Texts.{text_of}
use Rattle.cli_words.specs.declared.command.ProgramWord.{ProgramWord}
use Rattle.cli_words.specs.declared.command.WordsRefusal.{WordsRefusal}

-- the bytes of each word
abbrev pub texts : {Z : Type 0} → List (String Z) → List (List ℕ)
texts words = map string_bytes words

-- the word at a place; a word that is missing counts as empty
abbrev pub word_at : List (List ℕ) → ℕ → List ℕ
word_at words at = slice_index_or words (at - 1) []

-- a word that can't stand at its place refuses the line there
abbrev pub here : {A : Type 0} → ℕ → Option A → Result A WordsRefusal
here at (Some x) = Ok x
here at None = Err (record { at = at })

-- what the words so far say, and what more is made of it
infixl 10 ◌>>=◌
abbrev pub ◌>>=◌ : {A B : Type 0} → Result A WordsRefusal → (A → Result B WordsRefusal)
    → Result B WordsRefusal
(Ok x) >>= f = f x
(Err e) >>= f = Err e

-- what stands in a word behind a prefix
abbrev pub behind : (prefix word : List ℕ) → Option (List ℕ)
behind prefix word =
    if bytes_eq (take (length prefix) word) prefix then Some (drop (length prefix) word) else None

-- a file word isn't empty and doesn't begin with two dashes
abbrev pub is_file : List ℕ → Bool
is_file word = not (length word == 0) && not (starts_with nat_eq word (codes "--"))

unfoldable pub is_shipped : List ℕ → Bool
is_shipped word = is_some (text_of word)

-- a program's word is a shipped name, or `file:` and a file word
abbrev pub named_file : Option (List ℕ) → ℕ → Option ProgramWord
named_file None at = None
named_file (Some name) at = if is_file name then Some (record { at = at; file = true }) else None

abbrev pub program_of : List ℕ → ℕ → Option ProgramWord
program_of word at =
    if is_shipped word then Some (record { at = at; file = false })
    else named_file (behind (codes "file:") word) at

-- the number that digits make, below 2^64
abbrev pub exact_of : List ℕ → Option ℕ
exact_of digits = if nat_lt (decimal_value digits) (2 ^ 64) then Some (decimal_value digits) else
    None

-- the number, where it is in its range
abbrev pub between : (least most n : ℕ) → Option ℕ
between least most n = if nat_le least n && nat_le n most then Some n else None

-- the number of one or more digits, where it is in its range
abbrev pub number_of : (least most : ℕ) → List ℕ → Option ℕ
number_of least most word = if is_decimal word then between least most (decimal_value word) else
    None

abbrev pub program_at : List (List ℕ) → ℕ → Result ProgramWord WordsRefusal
program_at words at = here at (program_of (word_at words at) at)

abbrev pub file_at : List (List ℕ) → ℕ → Result ℕ WordsRefusal
file_at words at = here at (if is_file (word_at words at) then Some at else None)

abbrev pub number_at : (least most : ℕ) → List (List ℕ) → ℕ → Result ℕ WordsRefusal
number_at least most words at = here at (number_of least most (word_at words at))
