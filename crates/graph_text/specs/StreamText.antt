-- The batches of a text.
use Rattle.std.specs.Prelude.{ℕ, ℤ, pos, ◌+◌, Bool, true, false, nat_lt, if◌then◌else◌, List, []}
use Rattle.std.specs.Prelude.{◌∷◌, map, length, take, slice_get, Option, Some, None, unwrap_or}
use Rattle.std.specs.Prelude.{codes}
use Rattle.std.specs.List.{prefix_len, take_while, slice_split}
use Rattle.std.specs.Str.{bytes_eq}
use Rattle.bolt_base.specs.declared.edge.Edit.{Edit}
use Rattle.bolt_base.specs.declared.edge.Edit.TheVariants.{Add, Cut, Attr}
use Rattle.bolt_base.specs.declared.limits.LineCause.{LineCause}
use Rattle.bolt_base.specs.declared.limits.LineCause.TheVariants.{Syntax, Size, Unfinished}
use Rattle.text_lines.specs.Lines.{seen_lines}
use Rattle.lexical.specs.Words.{words}
use Rattle.text_lines.specs.Numbers.{vertex_word, whole_word}
use Rattle.graph_text.specs.declared.bad_line.BadLine.{BadLine}
use Rattle.graph_text.specs.declared.stream_lines.StreamLine.{StreamLine}
use Rattle.graph_text.specs.declared.stream_lines.StreamLine.TheVariants.{Empty, Edit as EditLine}
use Rattle.graph_text.specs.declared.stream_lines.StreamLine.TheVariants.{Commit, Unknown}
use Rattle.graph_text.specs.declared.batch_text.BatchText.{BatchText}
use Rattle.graph_text.specs.declared.batch_reader.TheConstants.{MOST_EDITS}

-- the forms of a line: `+ U V` or `+ U V W`, whose weight is 1 where it is left out, `- U V`, `v U
-- A`, and `commit`
abbrev pub add_line : Option ℕ → Option ℕ → Option ℤ → StreamLine
add_line None v w = Unknown
add_line (Some u) None w = Unknown
add_line (Some u) (Some v) None = Unknown
add_line (Some u) (Some v) (Some w) = EditLine (Add (record { src = u; dst = v; weight = w }))

abbrev pub cut_line : Option ℕ → Option ℕ → StreamLine
cut_line None v = Unknown
cut_line (Some u) None = Unknown
cut_line (Some u) (Some v) = EditLine (Cut u v)

abbrev pub attr_line : Option ℕ → Option ℤ → StreamLine
attr_line None a = Unknown
attr_line (Some u) None = Unknown
attr_line (Some u) (Some a) = EditLine (Attr u a)

unfoldable pub one_word : List ℕ → StreamLine
one_word word = if bytes_eq word (codes "commit") then Commit else Unknown

unfoldable pub three_words : List ℕ → List ℕ → List ℕ → StreamLine
three_words sign second third =
    if bytes_eq sign (codes "+") then add_line (vertex_word second) (vertex_word third)
    (Some (pos 1))
    else (if bytes_eq sign (codes "-") then cut_line (vertex_word second) (vertex_word third)
    else (if bytes_eq sign (codes "v") then attr_line (vertex_word second) (whole_word third) else
    Unknown))

unfoldable pub four_words : List ℕ → List ℕ → List ℕ → List ℕ → StreamLine
four_words sign second third fourth =
    if bytes_eq sign (codes "+") then add_line (vertex_word second) (vertex_word third)
    (whole_word fourth) else Unknown

abbrev pub form_of : List (List ℕ) → StreamLine
form_of [] = Empty
form_of (a ∷ []) = one_word a
form_of (a ∷ b ∷ []) = Unknown
form_of (a ∷ b ∷ c ∷ []) = three_words a b c
form_of (a ∷ b ∷ c ∷ d ∷ []) = four_words a b c d
form_of (a ∷ b ∷ c ∷ d ∷ e ∷ ws) = Unknown

-- what a line says; a long line has none of the forms
abbrev pub stream_line : Option (List ℕ) → StreamLine
stream_line None = Unknown
stream_line (Some line) = form_of (words line)

-- whether a line is empty, ends a batch, or has one of the forms
abbrev pub is_empty : StreamLine → Bool
is_empty Empty = true
is_empty (EditLine e) = false
is_empty Commit = false
is_empty Unknown = false

abbrev pub is_commit : StreamLine → Bool
is_commit Empty = false
is_commit (EditLine e) = false
is_commit Commit = true
is_commit Unknown = false

abbrev pub is_known : StreamLine → Bool
is_known Empty = true
is_known (EditLine e) = true
is_known Commit = true
is_known Unknown = false

-- the edits of some lines
abbrev pub edits_in : List StreamLine → List Edit
edits_in [] = []
edits_in (Empty ∷ lines) = edits_in lines
edits_in (EditLine e ∷ lines) = e ∷ edits_in lines
edits_in (Commit ∷ lines) = edits_in lines
edits_in (Unknown ∷ lines) = edits_in lines

-- the number of the line of each of them, where the first line has the number n
abbrev pub edit_numbers : ℕ → List StreamLine → List ℕ
edit_numbers n [] = []
edit_numbers n (Empty ∷ lines) = edit_numbers (n + 1) lines
edit_numbers n (EditLine e ∷ lines) = n ∷ edit_numbers (n + 1) lines
edit_numbers n (Commit ∷ lines) = edit_numbers (n + 1) lines
edit_numbers n (Unknown ∷ lines) = edit_numbers (n + 1) lines

-- the lines before the first unknown one
abbrev pub known_lines : List StreamLine → List StreamLine
known_lines lines = take_while is_known lines

abbrev pub bad_at : ℕ → LineCause → Option BadLine
bad_at number why = Some (record { line = number; cause = why })

-- the first unknown line
abbrev pub first_unknown : ℕ → List StreamLine → Option BadLine
first_unknown n lines =
    if nat_lt (length (known_lines lines)) (length lines) then bad_at
    (n + length (known_lines lines)) Syntax else None

abbrev pub too_many_or : Option ℕ → Option BadLine → Option BadLine
too_many_or None unknown = unknown
too_many_or (Some number) unknown = bad_at number Size

-- the bad line of a batch: the edit after the 1,000,000th before the first unknown line, or else
-- that line
abbrev pub bad_line : ℕ → List StreamLine → Option BadLine
bad_line n lines =
    too_many_or (slice_get (edit_numbers n (known_lines lines)) MOST_EDITS) (first_unknown n lines)

-- the number of the first line that isn't empty, if there is one
abbrev pub first_line : ℕ → List StreamLine → Option ℕ
first_line n lines =
    if nat_lt (prefix_len is_empty lines) (length lines) then Some (n + prefix_len is_empty lines)
    else None

-- the batch of the lines before a `commit`: its first line is the first that isn't empty, or the
-- `commit`, and its edits are those
-- before its bad line
abbrev pub batch_of : ℕ → List StreamLine → BatchText
batch_of n lines = record {
  first_line = unwrap_or (first_line n lines) (n + length lines);
  edits = take MOST_EDITS (edits_in (known_lines lines));
  lines = take MOST_EDITS (edit_numbers n (known_lines lines));
  bad = bad_line n lines;
}

-- lines behind the last `commit` that aren't all empty are one more batch, which has no end
abbrev pub unfinished : Option ℕ → List BatchText
unfinished None = []
unfinished (Some first) =
    record { first_line = first; edits = []; lines = []; bad = bad_at first Unfinished } ∷ []

-- the batches of the parts of a stream: a `commit` ends each part but the last one, of which `last`
-- makes a batch or none, by the
-- number of its first line that isn't empty
abbrev pub batches_by : (Option ℕ → List BatchText) → ℕ → List (List StreamLine) → List BatchText
batches_by last n [] = []
batches_by last n (part ∷ []) = last (first_line n part)
batches_by last n (part ∷ next ∷ parts) =
    batch_of n part ∷ batches_by last (n + length part + 1) (next ∷ parts)

-- the lines of a stream, split at each `commit`
abbrev pub parts_of : List (Option (List ℕ)) → List (List StreamLine)
parts_of lines = slice_split is_commit (map stream_line lines)

abbrev pub no_batch : Option ℕ → List BatchText
no_batch first = []

-- the batches of some lines, of which the first has the number n
abbrev pub batches_of : ℕ → List (Option (List ℕ)) → List BatchText
batches_of n lines = batches_by unfinished n (parts_of lines)

-- those of them that a `commit` ends
abbrev pub ended_batches_of : ℕ → List (Option (List ℕ)) → List BatchText
ended_batches_of n lines = batches_by no_batch n (parts_of lines)

-- the batches of a text
abbrev pub batches : List ℕ → List BatchText
batches text = batches_of 1 (seen_lines text)
