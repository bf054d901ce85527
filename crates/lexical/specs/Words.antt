-- The words of a line.
use Rattle.std.specs.Prelude.{ℕ, zero, suc, ◌+◌, ◌-◌, ◌==◌, Bool, not, if◌then◌else◌, List, [], ◌∷◌}
use Rattle.std.specs.Prelude.{length}
use Rattle.std.specs.List.{filter, take_while, prefix_len, slice_split}
use Rattle.lexical.specs.Bytes.{is_blank, is_no_blank, before_comment}

abbrev pub is_some_word : List ℕ → Bool
is_some_word part = not (length part == 0)

-- blanks, any number of them, split a text into words
abbrev pub split_words : List ℕ → List (List ℕ)
split_words text = filter is_some_word (slice_split is_blank text)

-- the words of a line, before its comment
abbrev pub words : List ℕ → List (List ℕ)
words line = split_words (before_comment line)

-- a word and its place
pub record Word : Type 0 where
  pub at : ℕ
  pub bytes : List ℕ

-- The words of the bytes from a place on, behind bytes that an earlier word took.
-- A word begins at each byte that is no blank and belongs to no earlier word, and goes on to the
-- next blank.
abbrev pub words_from : (taken at : ℕ) → List ℕ → List Word
words_from taken at [] = []
words_from (suc k) at (b ∷ bs) = words_from k (at + 1) bs
words_from zero at (b ∷ bs) =
    if is_blank b then words_from 0 (at + 1) bs
    else record { at = at; bytes = take_while is_no_blank (b ∷ bs) }
    ∷ words_from (prefix_len is_no_blank (b ∷ bs) - 1) (at + 1) bs
