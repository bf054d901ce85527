-- A program's lines in their order: which entry may stand where, and what the lines so far say.
use Rattle.std.specs.Prelude.{ℕ, pos, ◌+◌, ◌==◌, nat_lt, nat_le, Bool, true, false, if◌then◌else◌}
use Rattle.std.specs.Prelude.{List, [], ◌∷◌, length, drop, take, Option, Some, None, Result, Ok}
use Rattle.std.specs.Prelude.{Err}
use Rattle.lexical.specs.Words.{Word, words_from}
use Rattle.text_words.specs.Fields.{◌>>=◌, ascii_word, word_end, ended_at}
use Rattle.text_words.specs.declared.error.LangError.{LangError}
use Rattle.text_words.specs.declared.error.LangError.TheVariants.{Unknown, Repeat, Missing, TooBig}
use Rattle.text_words.specs.declared.error.Keyword.{Keyword}
use Rattle.text_words.specs.declared.error.Keyword.TheVariants.{Param, Lane, Init, Contribute}
use Rattle.text_words.specs.declared.error.Keyword.TheVariants.{Apply}
use Rattle.bolt_base.specs.declared.limits.Limits.{Limits}
use Rattle.vertex_expr.specs.declared.program.Combine.TheVariants.{Sum}
use Rattle.vertex_expr.specs.declared.program.ProgramEntries.{ProgramEntries}
use Rattle.vertex_lang.specs.declared.draft.Draft.{Draft}
use Rattle.vertex_lang.specs.Keywords.{order, keyword_of, once_at}
use Rattle.vertex_lang.specs.Entries.{entry_at}

-- the first entry that is still due
unfoldable pub first_due : Draft → Option Keyword
first_due d =
    if nat_lt d.stage 8 then Some (once_at d.stage)
    else if length d.entries.ranges == 0 then Some Lane
    else if nat_lt (length d.entries.init) (length d.entries.ranges) then Some Init
    else if nat_lt (length d.entries.contribute) (length d.entries.ranges) then Some Contribute
    else if nat_lt (length d.entries.apply) (length d.entries.ranges) then Some Apply
    else None

abbrev pub due_before : Option Keyword → Keyword → Result (Unit {0}) LangError
due_before None k = Ok tt
due_before (Some w) k = if nat_lt (order w) (order k) then Err (Missing w) else Ok tt

-- the entry belongs before the last one, or is the last one and stands once
unfoldable pub is_past : Draft → Keyword → Bool
is_past d k =
    if nat_lt (order k + 1) d.stage then true else if order k + 1 == d.stage then nat_lt (order k) 8
    else false

-- there are 64 params, or eight lanes
unfoldable pub is_full : ProgramEntries → Keyword → Bool
is_full g Param = nat_le 64 (length g.params)
is_full g Lane = nat_le 8 (length g.ranges)
is_full g _ = false

-- whether the entry may stand here
unfoldable pub admitted : Draft → Keyword → ℕ → Result (Unit {0}) LangError
admitted d k at =
    if is_past d k then Err (Repeat at) else due_before (first_due d) k >>= λ u. if is_full
    d.entries k then Err (TooBig at) else Ok tt

-- an entry whose word is known: it may stand here, its fields are right, and nothing stands behind
-- them
unfoldable pub entered : Draft → List ℕ → (at from : ℕ) → Keyword → Result Draft LangError
entered d line at from k =
    admitted d k at >>= λ u.
    entry_at d.entries k line from >>= λ e.
    ended_at line e.1 >>= λ v.
    Ok (record { stage = order k + 1; entries = e.0 })

abbrev pub keyed : Draft → List ℕ → Word → Option Keyword → Result Draft LangError
keyed d line w None = Err (Unknown w.at)
keyed d line w (Some k) = entered d line w.at (word_end w) k

-- a line without words is skipped
abbrev pub begun : Draft → List ℕ → List Word → Result Draft LangError
begun d line [] = Ok d
begun d line (w ∷ ws) = ascii_word w >>= λ v. keyed d line v (keyword_of v.bytes)

-- one line, which begins at a place of a text that ends with it
unfoldable pub line_step : Draft → List ℕ → ℕ → Result Draft LangError
line_step d line from = begun d line (words_from 0 from (drop from line))

-- the lines of a text, one after the other, each by its first place and the place behind it; the
-- first refusal decides
abbrev pub lines_read : Draft → List ℕ → List (ℕ × ℕ) → Result Draft LangError
lines_read d text [] = Ok d
lines_read d text (l ∷ ls) = line_step d (take l.1 text) l.0 >>= λ e. lines_read e text ls

-- at the end of the text nothing may be due
abbrev pub complete : Draft → Option Keyword → Result ProgramEntries LangError
complete d None = Ok d.entries
complete d (Some w) = Err (Missing w)

abbrev pub no_limits : Limits
no_limits =
    record {
      vertices = 0;
      degree = 0;
      edges = 0;
      weight_lo = pos 0;
      weight_hi = pos 0;
      attr_lo = pos 0;
      attr_hi = pos 0;
    }

-- nothing is said yet
abbrev pub blank : Draft
blank =
    record {
      stage = 0;
      entries = record {
        name = [];
        limits = no_limits;
        rounds = 0;
        combine = Sum;
        params = [];
        ranges = [];
        init = [];
        contribute = [];
        apply = [];
      };
    }
