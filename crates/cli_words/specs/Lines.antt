-- Which words are a command, and the first word that is wrong or missing where they are none.
use Rattle.std.specs.Prelude.{ℕ, ◌+◌, ◌*◌, ◌-◌, ◌^◌, nat_le, true, false, if◌then◌else◌, List}
use Rattle.std.specs.Prelude.{codes}
use Rattle.std.specs.Prelude.{Option, Some, None, Result, Ok, Err}
use Rattle.std.specs.Str.{bytes_eq}
use Rattle.cli_words.specs.Words.{word_at, program_at, file_at, number_at, number_of, here, ◌>>=◌}
use Rattle.cli_words.specs.Options.{options_at, filled}
use Rattle.cli_words.specs.declared.command.Command.{Command}
use Rattle.cli_words.specs.declared.command.Command.TheVariants as command
use Rattle.cli_words.specs.declared.command.MakeForm.{MakeForm}
use Rattle.cli_words.specs.declared.command.MakeForm.TheVariants as form
use Rattle.cli_words.specs.declared.command.WordsRefusal.{WordsRefusal}
use Rattle.cli_words.specs.declared.options.Offer.TheVariants as offer

-- run PROGRAM GRAPH STREAM, and options
abbrev pub run_of : List (List ℕ) → Result Command WordsRefusal
run_of words =
    program_at words 2 >>= λ program. file_at words 3 >>= λ graph. file_at words 4 >>= λ stream.
    options_at offer.Run words 5 >>= λ given.
    Ok (command.Run program graph stream (filled true given))

-- once PROGRAM GRAPH, and options
abbrev pub once_of : List (List ℕ) → Result Command WordsRefusal
once_of words =
    program_at words 2 >>= λ program. file_at words 3 >>= λ graph.
    options_at offer.Once words 4 >>= λ given.
    Ok (command.Once program graph (filled true given))

-- check PROGRAM
abbrev pub check_of : List (List ℕ) → Result Command WordsRefusal
check_of words =
    program_at words 2 >>= λ program. options_at offer.Nothing words 3 >>= λ given.
    Ok (command.Check program)

-- the forms of what is made: graph, stream, or run and options; where no option says so, a run
-- shows no values
abbrev pub plain_form : MakeForm → List (List ℕ) → Result MakeForm WordsRefusal
plain_form made words = options_at offer.Nothing words 8 >>= λ given. Ok made

abbrev pub run_form : List (List ℕ) → Result MakeForm WordsRefusal
run_form words = options_at offer.Run words 8 >>= λ given. Ok (form.Run (filled false given))

abbrev pub form_of : List (List ℕ) → Result MakeForm WordsRefusal
form_of words =
    if bytes_eq (word_at words 7) (codes "graph") then plain_form form.Graph words
    else (if bytes_eq (word_at words 7) (codes "stream") then plain_form form.Stream words
    else (if bytes_eq (word_at words 7) (codes "run") then run_form words
    else Err (record { at = 7 })))

-- pairs and edits of all batches are at most 8,000,000 together
abbrev pub within_changes : (pairs batches : ℕ) → Option ℕ → Option ℕ
within_changes pairs batches None = None
within_changes pairs batches (Some edits) =
    if nat_le (pairs + batches * edits) 8000000 then Some edits else None

abbrev pub edits_at : (pairs batches : ℕ) → List (List ℕ) → ℕ → Result ℕ WordsRefusal
edits_at pairs batches words at =
    here at (within_changes pairs batches (number_of 1 1000000 (word_at words at)))

-- make SEED N M B E, and a form
abbrev pub make_of : List (List ℕ) → Result Command WordsRefusal
make_of words =
    number_at 0 (2 ^ 64 - 1) words 2 >>= λ seed. number_at 1 1000000 words 3 >>= λ vertices.
    number_at 1 4000000 words 4 >>= λ pairs. number_at 0 100000 words 5 >>= λ batches.
    edits_at pairs batches words 6 >>= λ edits. form_of words >>= λ made.
    Ok (command.Make seed vertices pairs batches edits made)

-- the command of words, or the place of the first word that is wrong or missing
abbrev pub command_of : List (List ℕ) → Result Command WordsRefusal
command_of words =
    if bytes_eq (word_at words 1) (codes "run") then run_of words
    else (if bytes_eq (word_at words 1) (codes "once") then once_of words
    else (if bytes_eq (word_at words 1) (codes "check") then check_of words
    else (if bytes_eq (word_at words 1) (codes "make") then make_of words
    else Err (record { at = 1 }))))
