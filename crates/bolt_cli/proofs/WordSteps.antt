-- What words say.
use Rattle.std.specs.Prelude.{◌≡◌, ℕ, List, []}
use Rattle.std.specs.Prelude.{Result, Ok, Err, IfOk}
use Rattle.std.proofs.Common.{sym, ap, subst}
use Rattle.batch_steps.specs.Files.{Content}
use Rattle.cli_words.specs.Lines.{command_of}
use Rattle.cli_words.specs.declared.command.Command.{Command}
use Rattle.cli_words.specs.declared.command.WordsRefusal.{WordsRefusal}
use Rattle.command_course.specs.Still.{words_reply, course_by, course, files_by, files_before}
use Rattle.command_course.specs.Still.{slots_by, opened_with, IsDecidedBy, IsDecided}

-- of words that are no command: their refusal, and no file
module _ (words : List (List ℕ)) (w : WordsRefusal) (is : command_of words ≡ Err w) where
  pub course-wrong : (c : Content) → course words c ≡ Err (words_reply w)
  unfolding course
  course-wrong c = ap (λ (r : Result Command WordsRefusal). course_by words r c) is

  pub files_before-wrong : (c : Content) → files_before words c ≡ []
  unfolding files_before
  files_before-wrong c = ap (λ (r : Result Command WordsRefusal). files_by words r c) is

  pub opened_with-wrong : (s : ℕ) → opened_with words s ≡ 0
  unfolding opened_with
  opened_with-wrong s = ap (λ (r : Result Command WordsRefusal). slots_by r s) is

  pub decided-wrong : (s : ℕ) → s ≡ 2 → IsDecided words s
  unfolding IsDecided
  decided-wrong s two = subst (λ (r : Result Command WordsRefusal). IsDecidedBy r s) (sym is) two

-- what follows of an answer
pub ok_map : {A E : Type 0} (r : Result A E) (P Q : A → Type 0) → ((x : A) → P x → Q x) → IfOk r P
    → IfOk r Q
ok_map (Ok x) P Q step h = step x h
ok_map (Err e) P Q step h = tt
