-- What the words of `run` and of `once` name.
use Rattle.std.specs.Prelude.{◌≡◌, ◌+◌, ℕ, List, Result, Ok, Err, IfOk}
use Rattle.std.proofs.Common.{sym, ap, subst, arith}
use Rattle.batch_run.specs.Conducts.{Conducts, World}
use Rattle.batch_run.proofs.ReplySteps.{Conducts-same}
use Rattle.batch_steps.specs.Files.{Content}
use Rattle.batch_steps.specs.Steps.{stream_slots}
use Rattle.cli_words.specs.Lines.{command_of}
use Rattle.cli_words.specs.declared.command.Command.{Command}
use Rattle.cli_words.specs.declared.command.Command.TheVariants.{Once as OnceCommand}
use Rattle.cli_words.specs.declared.command.Command.TheVariants.{Run as RunCommand}
use Rattle.cli_words.specs.declared.command.ProgramWord.{ProgramWord}
use Rattle.cli_words.specs.declared.command.RunOptions.{RunOptions}
use Rattle.cli_words.specs.declared.command.WordsRefusal.{WordsRefusal}
use Rattle.command_course.specs.Still.{both_files, course, course_by, files_before, files_by}
use Rattle.command_course.specs.Still.{named, count_by, opened_with, slots_by, run_course}
use Rattle.command_course.specs.Still.{once_course, IsDecided, IsDecidedBy, graph_slots}
use Rattle.command_course.specs.Still.{program_count}
use Rattle.command_files.specs.declared.stop.Stop.{Stop}
use Rattle.graph_commands.specs.Opened.{IsOfOnce, IsOfRun}

-- a status that is decided
decided-by : (words : List (List ℕ)) (r : Result Command WordsRefusal) (s : ℕ)
    → r ≡ command_of words → IsDecidedBy r s → IsDecided words s
unfolding IsDecided
decided-by words r s is h = subst (λ (x : Result Command WordsRefusal). IsDecidedBy x s) is h

module _ (words : List (List ℕ)) (w : ProgramWord) (graph stream : ℕ) (options : RunOptions)
    (is : command_of words
    ≡ (let r : Result Command WordsRefusal = Ok (RunCommand w graph stream options) in r)) where
  course-run : (c : Content) → run_course words w graph stream options c ≡ course words c
  unfolding course
  course-run c = ap (λ (r : Result Command WordsRefusal). course_by words r c) (sym is)

  files-run : (c : Content) → both_files words w graph c ≡ files_before words c
  unfolding files_before
  files-run c = ap (λ (r : Result Command WordsRefusal). files_by words r c) (sym is)

  named-run : program_count w + 2 ≡ named words
  unfolding named
  named-run = ap count_by (sym is)

  slots-run : (s : ℕ) → program_count w + graph_slots s + stream_slots s ≡ opened_with words s
  unfolding opened_with
  slots-run s = ap (λ (r : Result Command WordsRefusal). slots_by r s) (sym is)

  -- what was conducted for a run was for the words
  pub Conducts-run : (old new : World) (r : Result ℕ Stop)
      → Conducts (run_course words w graph stream options) (both_files words w graph)
      (program_count w + 1 + 1) (λ s. program_count w + graph_slots s + stream_slots s) old new r
      → Conducts (course words) (files_before words) (named words) (opened_with words) old new r
  Conducts-run old new r h =
      let most : program_count w + 1 + 1 ≡ named words = omega (arith, named-run) in
      Conducts-same (run_course words w graph stream options) (course words)
      (both_files words w graph) (files_before words) (program_count w + 1 + 1) (named words)
      (λ s. program_count w + graph_slots s + stream_slots s) (opened_with words) course-run
      files-run most slots-run old new r h

  pub decided-run : (r : Result ℕ Stop) (P : ℕ → Type 0) → IfOk r P
      → ((s : ℕ) → P s → IsOfRun s) → IfOk r (IsDecided words)
  decided-run (Ok s) P ends own =
      decided-by words (Ok (RunCommand w graph stream options)) s (sym is) (own s ends)
  decided-run (Err e) P ends own = tt

module _ (words : List (List ℕ)) (w : ProgramWord) (graph : ℕ) (options : RunOptions)
    (is : command_of words
    ≡ (let r : Result Command WordsRefusal = Ok (OnceCommand w graph options) in r)) where
  course-once : (c : Content) → once_course words w graph options c ≡ course words c
  unfolding course
  course-once c = ap (λ (r : Result Command WordsRefusal). course_by words r c) (sym is)

  files-once : (c : Content) → both_files words w graph c ≡ files_before words c
  unfolding files_before
  files-once c = ap (λ (r : Result Command WordsRefusal). files_by words r c) (sym is)

  named-once : program_count w + 1 ≡ named words
  unfolding named
  named-once = ap count_by (sym is)

  slots-once : (s : ℕ) → program_count w + graph_slots s ≡ opened_with words s
  unfolding opened_with
  slots-once s = ap (λ (r : Result Command WordsRefusal). slots_by r s) (sym is)

  -- what was conducted for one run was for the words
  pub Conducts-once : (old new : World) (r : Result ℕ Stop)
      → Conducts (once_course words w graph options) (both_files words w graph)
      (program_count w + 1) (λ s. program_count w + graph_slots s) old new r
      → Conducts (course words) (files_before words) (named words) (opened_with words) old new r
  Conducts-once old new r h =
      Conducts-same (once_course words w graph options) (course words)
      (both_files words w graph) (files_before words) (program_count w + 1) (named words)
      (λ s. program_count w + graph_slots s) (opened_with words) course-once files-once
      named-once slots-once old new r h

  pub decided-once : (r : Result ℕ Stop) (n : ℕ) → IfOk r (λ s. s ≡ n) → IsOfOnce n
      → IfOk r (IsDecided words)
  decided-once (Ok s) n same own =
      decided-by words (Ok (OnceCommand w graph options)) s (sym is)
      (subst IsOfOnce (sym same) own)
  decided-once (Err e) n same own = tt
