-- The bytes that texts are divided by.
use Rattle.std.specs.Prelude.{ℕ, ◌-◌, ◌==◌, Bool, ◌||◌, not, if◌then◌else◌, List, length, take}
use Rattle.std.specs.Prelude.{slice_index}
use Rattle.std.specs.List.{take_while}

abbrev pub is_line_feed : ℕ → Bool
is_line_feed b = b == 10

abbrev pub is_no_line_feed : ℕ → Bool
is_no_line_feed b = not (is_line_feed b)

-- a blank is a space or a tab
abbrev pub is_blank : ℕ → Bool
is_blank b = (b == 32) || (b == 9)

abbrev pub is_no_blank : ℕ → Bool
is_no_blank b = not (is_blank b)

abbrev pub is_no_hash : ℕ → Bool
is_no_hash b = not (b == 35)

-- a carriage return directly before the line feed is no part of the line
abbrev pub without_carriage_return : List ℕ → List ℕ
without_carriage_return line =
    if slice_index line (length line - 1) == 13 then take (length line - 1) line else line

-- what stands before the comment, which a # begins
abbrev pub before_comment : List ℕ → List ℕ
before_comment line = take_while is_no_hash line
