-- How the program of a word is read.
use Rattle.std.proofs.Common.{◌≡◌, ◌∙◌, ℕ, Bool, false, List, [], ◌∷◌, refl, sym, ap}
use Rattle.std.proofs.Common.{subst, arith, cond}
use Rattle.std.specs.Prelude.{Option, Some, None, Result, Ok, Err, IfOk, IfSome, IsErrOf}
use Rattle.std.specs.Option.{option_map}
use Rattle.std.proofs.lemmas.List.{append-nil}
use Rattle.bolt_io.specs.Told.{Told}
use Rattle.bolt_io.specs.declared.files.Slot.{Slot}
use Rattle.batch_steps.specs.Files.{Content}
use Rattle.cli_words.specs.declared.command.ProgramWord.{ProgramWord}
use Rattle.command_files.specs.Files.{content}
use Rattle.command_files.specs.Reads.{Follows, Reads, with_slots}
use Rattle.command_files.specs.declared.stop.Stop.{Stop}
use Rattle.command_files.specs.declared.stop.Stop.TheVariants.{TooLong}
use Rattle.program_files.specs.ProgramFile.{program_file}
use Rattle.command_course.specs.Programs.{file_name, program_files}
use Rattle.command_course.specs.Still.{program_count}

-- no slot more
with_none : (told : Option Told) → told ≡ option_map (with_slots []) told
with_none None = refl
with_none (Some t) =
    ap (λ (l : List Slot). let o : Option Told = Some (record { files = t.files; slots = l }) in o)
    (sym (append-nil t.slots))

-- no file is to be read, and none was
module _ {T : Type 0} (D : T → Type 0) (old new : Option Told) (i k : ℕ) (r : Result T Stop)
  where
    all_full : (r : Result T Stop) → IfOk r (λ x. (let n : ℕ = 0 in n) ≡ 0)
    all_full (Ok x) = refl
    all_full (Err e) = tt

    follows_none : (c : Content) (r : Result T Stop) → (IsErrOf r TooLong → ⊥)
        → Follows c [] D [] r
    follows_none c (Ok x) not =
        record { first = tt; all = refl; done = λ d. tt; too_long = λ is. cc; not_long = λ x. x }
    follows_none c (Err e) not =
        record { first = tt; all = tt; done = tt; too_long = not; not_long = tt }

    each_none : (o : Option Told) → (IsErrOf r TooLong → ⊥)
        → IfSome o (λ t. Follows (content t) [] D [] r)
    each_none None not = tt
    each_none (Some t) not = follows_none (content t) r not

    pub Reads-no_file : new ≡ old → k ≡ i → (IsErrOf r TooLong → ⊥)
        → Reads (λ (c : Content). []) D 0 (λ (x : T). 0) old new i k r
    Reads-no_file told count not = record {
      more = [];
      told = told ∙ with_none old;
      count = omega (arith, count);
      within = omega arith;
      full = all_full r;
      follows = each_none old not;
    }

-- a shipped program is in no file
pub shipped-reads : {T : Type 0} (D : T → Type 0) (words : List (List ℕ)) (w : ProgramWord)
    (old : Option Told) (i : ℕ) (r : Result T Stop) → w.file ≡ false → (IsErrOf r TooLong → ⊥)
    → Reads (program_files words w) D (program_count w) (λ _. program_count w) old old i i r
shipped-reads D words w old i r is not =
    subst (λ (b : Bool). Reads (λ c. cond b (program_file (file_name words w) c ∷ []) []) D
    (cond b 1 0) (λ _. cond b 1 0) old old i i r) (sym is)
    (Reads-no_file D old old i i r refl refl not)
