-- The lines of a text.
use Rattle.std.specs.Prelude.{ℕ, zero, suc, ◌+◌, ◌==◌, if◌then◌else◌, List, [], ◌∷◌, length}
use Rattle.std.specs.List.{take_while, prefix_len, slice_split}
use Rattle.lexical.specs.Bytes.{is_line_feed, is_no_line_feed, is_no_hash, without_carriage_return}

-- the lines of what stands between the line feeds: one ends each part but the last, of which `last`
-- makes a line or none
abbrev pub lines_by : (List ℕ → List (List ℕ)) → List (List ℕ) → List (List ℕ)
lines_by last [] = []
lines_by last (part ∷ []) = last part
lines_by last (part ∷ next ∷ parts) = without_carriage_return part ∷ lines_by last (next ∷ parts)

-- nothing after the last line feed is no line
abbrev pub unended : List ℕ → List (List ℕ)
unended part = if length part == 0 then [] else part ∷ []

-- the lines of a text, each without its end
abbrev pub lines : List ℕ → List (List ℕ)
lines text = lines_by unended (slice_split is_line_feed text)

-- those of them that a line feed ends
abbrev pub ended_lines : List ℕ → List (List ℕ)
ended_lines text = lines_by (λ part. []) (slice_split is_line_feed text)

-- the line in front: its bytes up to a line feed, without a carriage return directly before that,
-- or to the end of the bytes
unfoldable pub front_line : List ℕ → List ℕ
front_line bs =
    if prefix_len is_no_line_feed bs == length bs then bs
    else without_carriage_return (take_while is_no_line_feed bs)

-- how many bytes of it stand before its comment
unfoldable pub line_length : List ℕ → ℕ
line_length bs = prefix_len is_no_hash (front_line bs)

-- The lines of the bytes from a place on, behind bytes that an earlier line took, each by its first
-- place and the place behind what stands before its comment.
-- A line begins at each byte that belongs to no earlier line.
abbrev pub lines_from : (taken at : ℕ) → List ℕ → List (ℕ × ℕ)
lines_from taken at [] = []
lines_from (suc k) at (b ∷ bs) = lines_from k (at + 1) bs
lines_from zero at (b ∷ bs) =
    (at, at + line_length (b ∷ bs)) ∷ lines_from (prefix_len is_no_line_feed (b ∷ bs)) (at + 1) bs
