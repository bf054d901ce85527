-- How a program's text is judged.
use Rattle.std.specs.Prelude.{ℕ, List, Option, Some, None, Result, Ok, Err}
use Rattle.text_words.specs.declared.error.LangError.{LangError}
use Rattle.vertex_expr.specs.declared.program.ProgramEntries.{ProgramEntries}
use Rattle.vertex_lang.specs.ProgramOf.{program_of}
use Rattle.range_check.specs.declared.refusal.RangeRefusal.{RangeRefusal}
use Rattle.range_check.specs.Breaks.{first_break}
use Rattle.program_files.specs.declared.refusal.ProgramRefusal.{ProgramRefusal}
use Rattle.program_files.specs.declared.refusal.ProgramRefusal.TheVariants.{Text, Range}

-- a program is accepted unless it has a break
abbrev pub unless_broken : ProgramEntries → Option RangeRefusal
    → Result ProgramEntries ProgramRefusal
unless_broken p None = Ok p
unless_broken p (Some r) = Err (Range r)

-- the same of what a text says
abbrev pub judged_by : Result ProgramEntries LangError → Result ProgramEntries ProgramRefusal
judged_by (Ok p) = unless_broken p (first_break p)
judged_by (Err e) = Err (Text e)

-- the program of a text, if it is one that is accepted, or why it is refused
abbrev pub judged : List ℕ → Result ProgramEntries ProgramRefusal
judged text = judged_by (program_of text)
