-- What the words of `check` name.
use Rattle.std.specs.Prelude.{◌≡◌, ◌⊎◌, ℕ, List, Result, Ok, Err, IfOk}
use Rattle.std.proofs.Common.{sym, ap, subst}
use Rattle.batch_run.specs.Conducts.{Conducts, World}
use Rattle.batch_steps.specs.Files.{Content}
use Rattle.cli_words.specs.Lines.{command_of}
use Rattle.cli_words.specs.declared.command.Command.{Command}
use Rattle.cli_words.specs.declared.command.Command.TheVariants.{Check as CheckCommand}
use Rattle.cli_words.specs.declared.command.ProgramWord.{ProgramWord}
use Rattle.cli_words.specs.declared.command.WordsRefusal.{WordsRefusal}
use Rattle.command_course.specs.Programs.{program_files}
use Rattle.command_course.specs.Still.{check_course, course, course_by, files_before, files_by}
use Rattle.command_course.specs.Still.{named, count_by, opened_with, slots_by, program_count}
use Rattle.command_course.specs.Still.{IsDecided, IsDecidedBy}
use Rattle.command_files.specs.declared.stop.Stop.{Stop}
use Rattle.batch_run.proofs.ReplySteps.{Conducts-same}

module _ (words : List (List ℕ)) (w : ProgramWord)
    (is : command_of words
    ≡ (let r : Result Command WordsRefusal = Ok (CheckCommand w) in r)) where
  course-check : (c : Content) → check_course words w c ≡ course words c
  unfolding course
  course-check c = ap (λ (r : Result Command WordsRefusal). course_by words r c) (sym is)

  files-check : (c : Content) → program_files words w c ≡ files_before words c
  unfolding files_before
  files-check c = ap (λ (r : Result Command WordsRefusal). files_by words r c) (sym is)

  named-check : program_count w ≡ named words
  unfolding named
  named-check = ap count_by (sym is)

  slots-check : (s : ℕ) → program_count w ≡ opened_with words s
  unfolding opened_with
  slots-check s = ap (λ (r : Result Command WordsRefusal). slots_by r s) (sym is)

  -- what was conducted for a check was for the words
  pub Conducts-check : (old new : World) (r : Result ℕ Stop)
      → Conducts (check_course words w) (program_files words w) (program_count w)
      (λ s. program_count w) old new r
      → Conducts (course words) (files_before words) (named words) (opened_with words) old new r
  Conducts-check old new r h =
      Conducts-same (check_course words w) (course words) (program_files words w)
      (files_before words) (program_count w) (named words) (λ s. program_count w)
      (opened_with words) course-check files-check named-check slots-check old new r h

  pub decided-check : (r : Result ℕ Stop) (n : ℕ) → IfOk r (λ s. s ≡ n) → (n ≡ 0) ⊎ (n ≡ 3)
      → IfOk r (IsDecided words)
  unfolding IsDecided
  decided-check (Ok s) n same own =
      subst (λ (r : Result Command WordsRefusal). IsDecidedBy r s) (sym is)
      (subst (λ (k : ℕ). (k ≡ 0) ⊎ (k ≡ 3)) (sym same) own)
  decided-check (Err e) n same own = tt
