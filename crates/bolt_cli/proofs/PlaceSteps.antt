-- The places of a command's words are counted from 1.
use Rattle.std.specs.Prelude.{◌≡◌, ℕ, ◌≤◌, ◌^◌, ◌-◌, Bool, true, false, if◌then◌else◌, List, codes}
use Rattle.std.specs.Prelude.{Option, Some, None, Result, Ok, Err, IfSome, IfOk}
use Rattle.std.specs.Str.{bytes_eq}
use Rattle.std.proofs.Common.{subst, arith}
use Rattle.cli_words.specs.Lines.{run_of, once_of, check_of, make_of, command_of}
use Rattle.cli_words.specs.Lines.{edits_at, form_of}
use Rattle.cli_words.specs.Options.{options_at}
use Rattle.cli_words.specs.Words.{word_at, program_at, file_at, number_at, here, ◌>>=◌, behind}
use Rattle.cli_words.specs.Words.{is_file, is_shipped, named_file, program_of}
use Rattle.cli_words.specs.declared.command.Command.{Command}
use Rattle.cli_words.specs.declared.command.Command.TheVariants as command
use Rattle.cli_words.specs.declared.command.MakeForm.{MakeForm}
use Rattle.cli_words.specs.declared.command.ProgramWord.{ProgramWord}
use Rattle.cli_words.specs.declared.command.WordsRefusal.{WordsRefusal}
use Rattle.cli_words.specs.declared.options.Given.{Given}
use Rattle.cli_words.specs.declared.options.Offer.TheVariants as offer

-- each word that a command tells by its place
abbrev pub IsPlaced : Command → Type 0
IsPlaced (command.Run program graph stream options) = (1 ≤ program.at) × (1 ≤ graph) × (1 ≤ stream)
IsPlaced (command.Once program graph options) = (1 ≤ program.at) × (1 ≤ graph)
IsPlaced (command.Check program) = 1 ≤ program.at
IsPlaced (command.Make seed vertices pairs batches edits form) = Unit {0}

then_some : {A : Type 0} (b : Bool) (x : A) (P : A → Type 0) → P x
    → IfSome (if b then Some x else None) P
then_some true x P h = h
then_some false x P h = tt

either_ok : {A : Type 0} (b : Bool) (x y : Result A WordsRefusal) (P : A → Type 0) → IfOk x P
    → IfOk y P → IfOk (if b then x else y) P
either_ok true x y P h k = h
either_ok false x y P h k = k

here_ok : {A : Type 0} (at : ℕ) (o : Option A) (P : A → Type 0) → IfSome o P → IfOk (here at o) P
here_ok at (Some x) P h = h
here_ok at None P h = tt

then_ok : {A B : Type 0} (r : Result A WordsRefusal) (f : A → Result B WordsRefusal)
    (P : A → Type 0) (Q : B → Type 0) → IfOk r P → ((x : A) → P x → IfOk (f x) Q)
    → IfOk (r >>= f) Q
then_ok (Ok x) f P Q h step = step x h
then_ok (Err w) f P Q h step = tt

any_ok : {A : Type 0} (r : Result A WordsRefusal) → IfOk r (λ x. Unit {0})
any_ok (Ok x) = tt
any_ok (Err w) = tt

module _ (at : ℕ) (least : 1 ≤ at) where
  named_placed : (o : Option (List ℕ)) → IfSome (named_file o at) (λ p. 1 ≤ p.at)
  named_placed None = tt
  named_placed (Some name) =
      then_some (is_file name) (let p : ProgramWord = record { at = at; file = true } in p)
      (λ (p : ProgramWord). 1 ≤ p.at) least

  shipped_placed : (b : Bool) (o : Option ProgramWord) → IfSome o (λ p. 1 ≤ p.at)
      → IfSome (if b then Some (record { at = at; file = false }) else o) (λ p. 1 ≤ p.at)
  shipped_placed true o h = least
  shipped_placed false o h = h

  program_placed : (words : List (List ℕ)) → IfOk (program_at words at) (λ p. 1 ≤ p.at)
  program_placed words =
      here_ok at (program_of (word_at words at) at) (λ (p : ProgramWord). 1 ≤ p.at)
      (shipped_placed (is_shipped (word_at words at))
      (named_file (behind (codes "file:") (word_at words at)) at)
      (named_placed (behind (codes "file:") (word_at words at))))

  file_placed : (words : List (List ℕ)) → IfOk (file_at words at) (λ k. 1 ≤ k)
  file_placed words =
      here_ok at (if is_file (word_at words at) then Some at else None) (λ (k : ℕ). 1 ≤ k)
      (then_some (is_file (word_at words at)) at (λ (k : ℕ). 1 ≤ k) least)

run_placed : (words : List (List ℕ)) → IfOk (run_of words) IsPlaced
run_placed words =
    then_ok (program_at words 2) _ (λ (p : ProgramWord). 1 ≤ p.at) IsPlaced
    (program_placed 2 (omega arith) words)
    (λ program p. then_ok (file_at words 3) _ (λ (k : ℕ). 1 ≤ k) IsPlaced
    (file_placed 3 (omega arith) words)
    (λ graph g. then_ok (file_at words 4) _ (λ (k : ℕ). 1 ≤ k) IsPlaced
    (file_placed 4 (omega arith) words)
    (λ stream s. then_ok (options_at offer.Run words 5) _ (λ (x : Given). Unit {0}) IsPlaced
    (any_ok (options_at offer.Run words 5)) (λ given x. (p, g, s)))))

once_placed : (words : List (List ℕ)) → IfOk (once_of words) IsPlaced
once_placed words =
    then_ok (program_at words 2) _ (λ (p : ProgramWord). 1 ≤ p.at) IsPlaced
    (program_placed 2 (omega arith) words)
    (λ program p. then_ok (file_at words 3) _ (λ (k : ℕ). 1 ≤ k) IsPlaced
    (file_placed 3 (omega arith) words)
    (λ graph g. then_ok (options_at offer.Once words 4) _ (λ (x : Given). Unit {0}) IsPlaced
    (any_ok (options_at offer.Once words 4)) (λ given x. (p, g))))

check_placed : (words : List (List ℕ)) → IfOk (check_of words) IsPlaced
check_placed words =
    then_ok (program_at words 2) _ (λ (p : ProgramWord). 1 ≤ p.at) IsPlaced
    (program_placed 2 (omega arith) words)
    (λ program p. then_ok (options_at offer.Nothing words 3) _ (λ (x : Given). Unit {0}) IsPlaced
    (any_ok (options_at offer.Nothing words 3)) (λ given x. p))

make_placed : (words : List (List ℕ)) → IfOk (make_of words) IsPlaced
make_placed words =
    then_ok (number_at 0 (2 ^ 64 - 1) words 2) _ (λ (n : ℕ). Unit {0}) IsPlaced
    (any_ok (number_at 0 (2 ^ 64 - 1) words 2))
    (λ seed _. then_ok (number_at 1 1000000 words 3) _ (λ (n : ℕ). Unit {0}) IsPlaced
    (any_ok (number_at 1 1000000 words 3))
    (λ vertices _. then_ok (number_at 1 4000000 words 4) _ (λ (n : ℕ). Unit {0}) IsPlaced
    (any_ok (number_at 1 4000000 words 4))
    (λ pairs _. then_ok (number_at 0 100000 words 5) _ (λ (n : ℕ). Unit {0}) IsPlaced
    (any_ok (number_at 0 100000 words 5))
    (λ batches _. then_ok (edits_at pairs batches words 6) _ (λ (n : ℕ). Unit {0}) IsPlaced
    (any_ok (edits_at pairs batches words 6))
    (λ edits _. then_ok (form_of words) _ (λ (m : MakeForm). Unit {0}) IsPlaced
    (any_ok (form_of words)) (λ made _. tt))))))

command_placed : (words : List (List ℕ)) → IfOk (command_of words) IsPlaced
command_placed words =
    either_ok (bytes_eq (word_at words 1) (codes "run")) _ _ IsPlaced (run_placed words)
    (either_ok (bytes_eq (word_at words 1) (codes "once")) _ _ IsPlaced (once_placed words)
    (either_ok (bytes_eq (word_at words 1) (codes "check")) _ _ IsPlaced (check_placed words)
    (either_ok (bytes_eq (word_at words 1) (codes "make")) _ _ IsPlaced (make_placed words) tt)))

pub placed : (words : List (List ℕ)) (c d : Command) → command_of words ≡ Ok c → c ≡ d → IsPlaced d
placed words c d is same =
    subst IsPlaced same (subst (λ (r : Result Command WordsRefusal). IfOk r IsPlaced) is
    (command_placed words))
