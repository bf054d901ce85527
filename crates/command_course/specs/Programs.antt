-- The program that a word names.
use Rattle.std.specs.Prelude.{ℕ, List, [], ◌∷◌, codes, if◌then◌else◌, Result, Ok, Err}
use Rattle.std.specs.Option.{unwrap_or}
use Rattle.vertex_expr.specs.declared.program.ProgramEntries.{ProgramEntries}
use Rattle.batch_steps.specs.declared.reply.Reply.{Reply}
use Rattle.batch_steps.specs.Files.{Content, Named}
use Rattle.bolt_ship.specs.Texts.{text_of}
use Rattle.cli_words.specs.Words.{behind, word_at}
use Rattle.cli_words.specs.declared.command.ProgramWord.{ProgramWord}
use Rattle.program_files.specs.Judged.{judged}
use Rattle.program_files.specs.ProgramFile.{program_file}
use Rattle.program_files.specs.declared.refusal.ProgramRefusal.{ProgramRefusal}
use Rattle.program_files.specs.declared.refusal.ProgramRefusal.TheVariants.{Text, Range}
use Rattle.report_text.specs.Programs.{text_refused, range_refused}
use Rattle.command_course.specs.Course.{reply_with}

-- the name of a program's file stands behind `file:`
abbrev pub file_name : List (List ℕ) → ProgramWord → List ℕ
file_name words w = unwrap_or (behind (codes "file:") (word_at words w.at)) []

-- the text of a shipped program, or of a file
abbrev pub shipped_text : List (List ℕ) → ProgramWord → List ℕ
shipped_text words w = unwrap_or (text_of (word_at words w.at)) []

abbrev pub program_text : List (List ℕ) → ProgramWord → Content → List ℕ
program_text words w c = if w.file then c (file_name words w) else shipped_text words w

-- why it is refused
abbrev pub program_refused : ProgramRefusal → Reply
program_refused (Text e) = reply_with 3 (text_refused e)
program_refused (Range r) = reply_with 3 (range_refused r)

abbrev pub or_refused : Result ProgramEntries ProgramRefusal → Result ProgramEntries Reply
or_refused (Ok p) = Ok p
or_refused (Err r) = Err (program_refused r)

-- the program, if it is accepted
unfoldable pub accepted_program : List (List ℕ) → ProgramWord → Content
    → Result ProgramEntries Reply
accepted_program words w c = or_refused (judged (program_text words w c))

-- its file, if it has one
abbrev pub program_files : List (List ℕ) → ProgramWord → Content → List Named
program_files words w c = if w.file then program_file (file_name words w) c ∷ [] else []
