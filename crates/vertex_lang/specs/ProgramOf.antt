-- The program of a whole text, or its first refusal with its place.
use Rattle.std.specs.Prelude.{ℕ, nat_lt, if◌then◌else◌, List, length, Result, Ok, Err}
use Rattle.lexical.specs.Lines.{lines_from}
use Rattle.text_words.specs.Fields.{◌>>=◌}
use Rattle.text_words.specs.declared.error.LangError.{LangError}
use Rattle.text_words.specs.declared.error.LangError.TheVariants.{TooBig}
use Rattle.vertex_expr.specs.declared.program.ProgramEntries.{ProgramEntries}
use Rattle.vertex_lang.specs.Drafts.{blank, lines_read, complete, first_due}
use Rattle.vertex_lang.specs.Canonical.{canonical_text}

-- what the lines of a text say, if they are right and none is missing
unfoldable pub entries_of : List ℕ → Result ProgramEntries LangError
entries_of text = lines_read blank text (lines_from 0 0 text) >>= λ d. complete d (first_due d)

abbrev pub fitting : ProgramEntries → Result ProgramEntries LangError
fitting g = if nat_lt 65536 (length (canonical_text g)) then Err (TooBig 65536) else Ok g

-- A text has at most 65,536 bytes, which is looked at before all else, and so has its program's
-- canonical text, which is looked at after all else.
unfoldable pub program_of : List ℕ → Result ProgramEntries LangError
program_of text =
    if nat_lt 65536 (length text) then Err (TooBig 65536) else entries_of text >>= fitting
