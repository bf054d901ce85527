-- What both ways of reading a text have in common.
use Rattle.std.specs.Prelude.{◌≡◌, ℕ, ◌-◌, List, map, take, drop}
use Rattle.lexical.specs.Bytes.{before_comment}
use Rattle.lexical.specs.Words.{split_words, words_from}
use Rattle.lexical.specs.Lines.{lines, lines_from}

-- the words with their places have the bytes of the words that blanks split, whatever the first
-- place is
abbrev pub WordsAreAlike : Type 0
WordsAreAlike = (at : ℕ) (text : List ℕ)
    → map (λ w. w.bytes) (words_from 0 at text) ≡ split_words text

-- what stands from a place on and before another
abbrev pub between : List ℕ → ℕ × ℕ → List ℕ
between text place = take (place.1 - place.0) (drop place.0 text)

-- the lines with their places are the lines that line feeds split, each before its comment
abbrev pub LinesAreAlike : Type 0
LinesAreAlike = (text : List ℕ)
    → map (between text) (lines_from 0 0 text) ≡ map before_comment (lines text)
