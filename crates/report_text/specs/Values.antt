-- The lines of values that commands write.
use Rattle.std.specs.Prelude.{ℕ, ℤ, List, ◌++◌, length, codes}
use Rattle.std.specs.Fmt.{signed_decimal}
use Rattle.std.specs.List.{range_with_len, flat_map}
use Rattle.bolt_base.specs.declared.answer.AnswerChange.{AnswerChange}
use Rattle.run_model.specs.Rows.{Lists, at, lane_total}
use Rattle.report_text.specs.Lines.{labelled}

-- the lanes of a value in order, each behind a space
abbrev pub lane_word : ℤ → List ℕ
lane_word x = codes " " ++ signed_decimal x

abbrev pub lane_words : List ℤ → List ℕ
lane_words value = flat_map lane_word value

-- a line of a word, a vertex and its value
abbrev pub vertex_line : List ℕ → ℕ → List ℤ → List ℕ
vertex_line word v value = labelled word v ++ lane_words value ++ codes "\n"

-- the value of each vertex, rising
abbrev pub value_line : Lists → ℕ → List ℕ
value_line values v = vertex_line (codes "value ") v (at values v)

abbrev pub value_lines : Lists → List ℕ
value_lines values = flat_map (value_line values) (range_with_len 0 (length values))

-- the changes of an answer, in order
abbrev pub set_line : AnswerChange → List ℕ
set_line change = vertex_line (codes "set ") change.vertex change.value

abbrev pub set_lines : List AnswerChange → List ℕ
set_lines changes = flat_map set_line changes

-- the sum of each lane, in order
abbrev pub total_line : ℕ → ℤ → List ℕ
total_line lane total = labelled (codes "total ") lane ++ lane_word total ++ codes "\n"

abbrev pub total_lines : ℕ → Lists → List ℕ
total_lines width values =
    flat_map (λ lane. total_line lane (lane_total lane values)) (range_with_len 0 width)
