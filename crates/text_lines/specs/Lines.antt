-- The lines of a text, and what counts of them.
use Rattle.std.specs.Prelude.{ℕ, zero, suc, ◌-◌, Bool, nat_lt, if◌then◌else◌, List, [], ◌∷◌, map}
use Rattle.std.specs.Prelude.{length, Option, Some, None}
use Rattle.lexical.specs.Bytes.{is_line_feed}
use Rattle.lexical.specs.Lines.{lines, ended_lines}
use Rattle.text_lines.specs.declared.line_feed.TheConstants.{MOST_LINE_BYTES}

-- a line that is too long, its comment included
abbrev pub is_long : List ℕ → Bool
is_long line = nat_lt MOST_LINE_BYTES (length line)

-- what counts of a line: its bytes, and of a long line only that it is one
abbrev pub seen : List ℕ → Option (List ℕ)
seen line = if is_long line then None else Some line

abbrev pub seen_lines : List ℕ → List (Option (List ℕ))
seen_lines text = map seen (lines text)

abbrev pub seen_ended_lines : List ℕ → List (Option (List ℕ))
seen_ended_lines text = map seen (ended_lines text)

-- what stands in a text behind its first n lines
abbrev pub after_lines : ℕ → List ℕ → List ℕ
after_lines zero text = text
after_lines (suc n) [] = []
after_lines (suc n) (b ∷ bs) = if is_line_feed b then after_lines n bs else after_lines (suc n) bs

-- how many bytes the first n lines of a text have, with their ends
abbrev pub lines_len : ℕ → List ℕ → ℕ
lines_len n text = length text - length (after_lines n text)
