-- The questions of a text.
use Rattle.std.specs.Prelude.{ℕ, ℤ, nat_lt, if◌then◌else◌, List, [], ◌∷◌, Option, Some, None, codes}
use Rattle.std.specs.List.{All, filter_map}
use Rattle.std.specs.Str.{bytes_eq}
use Rattle.lexical.specs.Words.{words}
use Rattle.text_lines.specs.Lines.{seen_lines}
use Rattle.text_lines.specs.Numbers.{vertex_word, whole_word}
use Rattle.board.specs.Queries.{HasLane}
use Rattle.board.specs.declared.query.Query.TheVariants.{Value, Total, AtLeast, Prefix}
use Rattle.live_text.specs.declared.question.Question.{Question}
use Rattle.live_text.specs.declared.question.Question.TheVariants.{Ask, Unknown}

-- a lane is below the number of lanes
abbrev pub lane_below : ℕ → Option ℕ → Option ℕ
lane_below lanes None = None
lane_below lanes (Some lane) = if nat_lt lane lanes then Some lane else None

unfoldable pub lane_word : ℕ → List ℕ → Option ℕ
lane_word lanes word = lane_below lanes (vertex_word word)

-- the forms of a line: `value V`, `total L`, `atleast L X` and `prefix`
abbrev pub value_question : Option ℕ → Question
value_question None = Unknown
value_question (Some vertex) = Ask (Value vertex)

abbrev pub total_question : Option ℕ → Question
total_question None = Unknown
total_question (Some lane) = Ask (Total lane)

abbrev pub at_least_question : Option ℕ → Option ℤ → Question
at_least_question None least = Unknown
at_least_question (Some lane) None = Unknown
at_least_question (Some lane) (Some least) = Ask (AtLeast lane least)

unfoldable pub one_word : List ℕ → Question
one_word word = if bytes_eq word (codes "prefix") then Ask Prefix else Unknown

unfoldable pub two_words : ℕ → List ℕ → List ℕ → Question
two_words lanes first second =
    if bytes_eq first (codes "value") then value_question (vertex_word second)
    else (if bytes_eq first (codes "total") then total_question (lane_word lanes second) else
    Unknown)

unfoldable pub three_words : ℕ → List ℕ → List ℕ → List ℕ → Question
three_words lanes first second third =
    if bytes_eq first (codes "atleast") then at_least_question (lane_word lanes second)
    (whole_word third) else Unknown

abbrev pub form_of : ℕ → List (List ℕ) → Option Question
form_of lanes [] = None
form_of lanes (a ∷ []) = Some (one_word a)
form_of lanes (a ∷ b ∷ []) = Some (two_words lanes a b)
form_of lanes (a ∷ b ∷ c ∷ []) = Some (three_words lanes a b c)
form_of lanes (a ∷ b ∷ c ∷ d ∷ ws) = Some Unknown

-- what a line asks, for a program with that many lanes: nothing where it is empty, and a long line
-- has none of the forms
abbrev pub question_line : ℕ → Option (List ℕ) → Option Question
question_line lanes None = Some Unknown
question_line lanes (Some line) = form_of lanes (words line)

-- the questions of some lines
abbrev pub questions_in : ℕ → List (Option (List ℕ)) → List Question
questions_in lanes lines = filter_map (question_line lanes) lines

-- the questions of a text
abbrev pub questions : ℕ → List ℕ → List Question
questions lanes text = questions_in lanes (seen_lines text)

-- a lane in the question is one of n
abbrev pub IsWithin : ℕ → Question → Type 0
IsWithin n (Ask query) = HasLane query n
IsWithin n Unknown = Unit {0}

abbrev pub AreWithin : ℕ → List Question → Type 0
AreWithin n qs = All (IsWithin n) qs
