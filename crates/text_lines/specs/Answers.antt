-- What a feed answers, in the words of its text.
use Rattle.std.specs.Prelude.{ℕ, List, Option, Some, None}
use Rattle.text_lines.specs.declared.feed.Line.{Line}
use Rattle.text_lines.specs.declared.feed.Line.TheVariants.{Text, Long}

-- the line that an answer gives
abbrev pub answered_line : Line → Option (List ℕ)
answered_line (Text number bytes) = Some bytes
answered_line (Long number) = None

abbrev pub number_of : Line → ℕ
number_of (Text number bytes) = number
number_of (Long number) = number
