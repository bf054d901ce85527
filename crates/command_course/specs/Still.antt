-- What each command line writes and reads.
use Rattle.std.specs.Prelude.{◌≡◌, ◌⊎◌, ◌==◌, ℕ, ◌+◌, if◌then◌else◌, List, [], ◌∷◌, ◌++◌, map}
use Rattle.std.specs.Prelude.{length, Option, None, Result, Ok, Err}
use Rattle.std.specs.List.{range_with_len, flat_map}
use Rattle.bolt_base.specs.declared.edge.Edit.{Edit}
use Rattle.vertex_expr.specs.declared.program.ProgramEntries.{ProgramEntries}
use Rattle.graph_text.specs.Printed.{graph_text, batch_text as printed_batch}
use Rattle.graph_text.specs.declared.batch_text.BatchText.{BatchText}
use Rattle.batch_steps.specs.Course.{opening_of, reply_of, stream_of}
use Rattle.batch_steps.specs.Files.{Content, Named}
use Rattle.batch_steps.specs.Graphs.{graph_file}
use Rattle.batch_steps.specs.Steps.{IsMade, prepend, rest_reply, stream_slots}
use Rattle.batch_steps.specs.declared.reply.Reply.{Reply}
use Rattle.bolt_make.specs.Generator.{made_batches, made_graph}
use Rattle.bolt_ship.specs.Texts.{rank_text}
use Rattle.cli_words.specs.Lines.{command_of}
use Rattle.cli_words.specs.Words.{word_at}
use Rattle.cli_words.specs.declared.command.Command.{Command}
use Rattle.cli_words.specs.declared.command.Command.TheVariants as command
use Rattle.cli_words.specs.declared.command.MakeForm.{MakeForm}
use Rattle.cli_words.specs.declared.command.MakeForm.TheVariants as form
use Rattle.cli_words.specs.declared.command.ProgramWord.{ProgramWord}
use Rattle.cli_words.specs.declared.command.RunOptions.{RunOptions}
use Rattle.cli_words.specs.declared.command.WordsRefusal.{WordsRefusal}
use Rattle.program_files.specs.Judged.{judged}
use Rattle.report_text.specs.Programs.{check_text}
use Rattle.report_text.specs.Refusals.{words_refused}
use Rattle.report_text.specs.Runs.{Run, open_text, once_text, run_steps}
use Rattle.command_course.specs.Course.{Course, replies, opens, ◌>>=◌, refusal_by, reply_with}
use Rattle.command_course.specs.Openings.{graph_for, run_for}
use Rattle.command_course.specs.Programs.{accepted_program, or_refused, program_files}

-- ---- run PROGRAM GRAPH STREAM
-- the opening of a run, which goes over a stream of that name
abbrev pub run_opening : List ℕ → Run → Course
run_opening stream r = opens (opening_of run_steps r (open_text r) stream)

abbrev pub run_course : List (List ℕ) → ProgramWord → ℕ → ℕ → RunOptions → Content → Course
run_course words program graph stream options c =
    accepted_program words program c >>= λ p. graph_for p (c (word_at words graph)) >>= λ g.
    run_for p options g >>= run_opening (word_at words stream)

-- ---- once PROGRAM GRAPH
abbrev pub once_course : List (List ℕ) → ProgramWord → ℕ → RunOptions → Content → Course
once_course words program graph options c =
    accepted_program words program c >>= λ p. graph_for p (c (word_at words graph)) >>= λ g.
    replies (reply_with 0 (once_text p options.show g))

-- ---- check PROGRAM
abbrev pub check_course : List (List ℕ) → ProgramWord → Content → Course
check_course words program c =
    accepted_program words program c >>= λ p. replies (reply_with 0 (check_text p))

-- ---- make SEED N M B E FORM
-- the edits of a batch on lines of their own
abbrev pub made_batch : List Edit → BatchText
made_batch edits = record {
  first_line = 1;
  edits = edits;
  lines = range_with_len 1 (length edits);
  bad = None;
}

-- the reply of a run to its opening and then to some batches
abbrev pub run_reply : List BatchText → Run → Reply
run_reply batches r = prepend (open_text r) (rest_reply run_steps r batches)

-- the run of the shipped program `rank` on what is made
abbrev pub made_run : (seed n m b e : ℕ) → RunOptions → Course
made_run seed n m b e options =
    or_refused (judged rank_text) >>= λ p. run_for p options (made_graph seed n m) >>= λ r.
    replies (run_reply (map made_batch (made_batches seed n m b e)) r)

abbrev pub make_course : (seed n m b e : ℕ) → MakeForm → Course
make_course seed n m b e form.Graph =
    replies (reply_with 0 (graph_text (made_graph seed n m)))
make_course seed n m b e form.Stream =
    replies (reply_with 0 (flat_map printed_batch (made_batches seed n m b e)))
make_course seed n m b e (form.Run options) = made_run seed n m b e options

-- ---- any command
abbrev pub course_of : List (List ℕ) → Command → Content → Course
course_of words (command.Run program graph stream options) c =
    run_course words program graph stream options c
course_of words (command.Once program graph options) c =
    once_course words program graph options c
course_of words (command.Check program) c = check_course words program c
course_of words (command.Make seed n m b e form) c = make_course seed n m b e form

-- words that are no command are refused before all else
abbrev pub words_reply : WordsRefusal → Reply
words_reply w = reply_with 2 (words_refused w.at)

abbrev pub course_by : List (List ℕ) → Result Command WordsRefusal → Content → Course
course_by words (Err w) c = replies (words_reply w)
course_by words (Ok command) c = course_of words command c

unfoldable pub course : List (List ℕ) → Content → Course
course words c = course_by words (command_of words) c

-- what refuses a command, if anything does
abbrev pub refusal : List (List ℕ) → Content → Option Reply
refusal words c = refusal_by (course words c)

-- what a command writes, and the status with which it ends
abbrev pub still : List (List ℕ) → Content → Reply
still words c = reply_of (course words c) c

-- ---- files
-- the graph is read where the program is accepted
abbrev pub graph_files : Result ProgramEntries Reply → List ℕ → Content → List Named
graph_files (Ok p) graph c = graph_file p.limits graph c ∷ []
graph_files (Err reply) graph c = []

abbrev pub both_files : List (List ℕ) → ProgramWord → ℕ → Content → List Named
both_files words program graph c =
    program_files words program c
    ++ graph_files (accepted_program words program c) (word_at words graph) c

-- the files that are read before a stream, in order, each with how far it is read
abbrev pub files_of : List (List ℕ) → Command → Content → List Named
files_of words (command.Run program graph stream options) c = both_files words program graph c
files_of words (command.Once program graph options) c = both_files words program graph c
files_of words (command.Check program) c = program_files words program c
files_of words (command.Make seed n m b e form) c = []

abbrev pub files_by : List (List ℕ) → Result Command WordsRefusal → Content → List Named
files_by words (Err w) c = []
files_by words (Ok command) c = files_of words command c

unfoldable pub files_before : List (List ℕ) → Content → List Named
files_before words c = files_by words (command_of words) c

-- and with the stream, which is read to its end where nothing is refused before it
abbrev pub files_read : List (List ℕ) → Content → List Named
files_read words c = files_before words c ++ stream_of (course words c) c

-- ---- what the words alone decide
-- a program's word names one file or none
abbrev pub program_count : ProgramWord → ℕ
program_count w = if w.file then 1 else 0

-- how many files a command names
abbrev pub count_of : Command → ℕ
count_of (command.Run program graph stream options) = program_count program + 2
count_of (command.Once program graph options) = program_count program + 1
count_of (command.Check program) = program_count program
count_of (command.Make seed n m b e form) = 0

abbrev pub count_by : Result Command WordsRefusal → ℕ
count_by (Err w) = 0
count_by (Ok command) = count_of command

unfoldable pub named : List (List ℕ) → ℕ
named words = count_by (command_of words)

-- the graph is opened but where the program is refused, which gives 3
abbrev pub graph_slots : ℕ → ℕ
graph_slots status = if status == 3 then 0 else 1

-- how many of them were opened where a command ended with a status that words and files decide
abbrev pub slots_of : Command → ℕ → ℕ
slots_of (command.Run program graph stream options) status =
    program_count program + graph_slots status + stream_slots status
slots_of (command.Once program graph options) status = program_count program + graph_slots status
slots_of (command.Check program) status = program_count program
slots_of (command.Make seed n m b e form) status = 0

abbrev pub slots_by : Result Command WordsRefusal → ℕ → ℕ
slots_by (Err w) status = 0
slots_by (Ok command) status = slots_of command status

unfoldable pub opened_with : List (List ℕ) → ℕ → ℕ
opened_with words status = slots_by (command_of words) status

-- those statuses: 2 where a word is wrong; and else 3 where the program is refused, 4 where the
-- graph is, and else 0, or 1 where a batch is refused
abbrev pub IsMakeDecided : MakeForm → ℕ → Type 0
IsMakeDecided form.Graph status = status ≡ 0
IsMakeDecided form.Stream status = status ≡ 0
IsMakeDecided (form.Run options) status = IsMade status ⊎ (status ≡ 3) ⊎ (status ≡ 4)

abbrev pub IsDecidedOf : Command → ℕ → Type 0
IsDecidedOf (command.Run program graph stream options) status =
    IsMade status ⊎ (status ≡ 3) ⊎ (status ≡ 4)
IsDecidedOf (command.Once program graph options) status =
    (status ≡ 0) ⊎ (status ≡ 3) ⊎ (status ≡ 4)
IsDecidedOf (command.Check program) status = (status ≡ 0) ⊎ (status ≡ 3)
IsDecidedOf (command.Make seed n m b e form) status = IsMakeDecided form status

abbrev pub IsDecidedBy : Result Command WordsRefusal → ℕ → Type 0
IsDecidedBy (Err w) status = status ≡ 2
IsDecidedBy (Ok command) status = IsDecidedOf command status

unfoldable pub IsDecided : List (List ℕ) → ℕ → Type 0
IsDecided words status = IsDecidedBy (command_of words) status
