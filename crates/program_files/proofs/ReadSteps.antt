-- A program's file that is opened and then read.
use Rattle.bolt_io.specs.declared.whole.TheConstants.{MOST_BYTES}
use Rattle.std.specs.Prelude.{◌≡◌, ℕ, ◌+◌, ◌≤◌, false, List, [], ◌∷◌, length, take, Option, Some}
use Rattle.std.specs.Prelude.{None, Result, Ok, Err, IfSome, IsErrOf}
use Rattle.std.specs.Option.{option_map}
use Rattle.std.proofs.Common.{refl, sym, ◌∙◌, ap, subst, arith, inl, inr}
use Rattle.std.proofs.lemmas.List.{length-take, take_all, take-take}
use Rattle.bolt_io.specs.Told.{Told, left, opened_at, TellsSlots, Took}
use Rattle.bolt_io.proofs.TakenLemmas.{Took-le}
use Rattle.vertex_expr.specs.declared.program.ProgramEntries.{ProgramEntries}
use Rattle.text_lines.specs.Feed.{readable}
use Rattle.command_files.specs.declared.stop.Stop.{Stop}
use Rattle.command_files.specs.declared.stop.Stop.TheVariants.{TooLong}
use Rattle.command_files.specs.Files.{content, whole_file, IsNear, MeetsLong}
use Rattle.command_files.specs.Reads.{TookTo, Follows, Reads}
use Rattle.command_files.proofs.FileSteps.{one_slot, opened_left, opened_bytes, one, slot_is}
use Rattle.command_files.proofs.FileSteps.{same_slot}
use Rattle.program_files.specs.declared.loading.TheConstants.{MOST_READ}
use Rattle.program_files.specs.declared.refusal.ProgramRefusal.{ProgramRefusal}
use Rattle.program_files.specs.Judged.{judged}
use Rattle.program_files.specs.ProgramFile.{program_far, program_file}
use Rattle.program_files.proofs.JudgeSteps.{judged-start}

-- the bytes that were taken are near where a program's file is read to
pub TookTo-text : (old new : Option Told) (slot : ℕ) (text : List ℕ) → length text ≤ MOST_READ
    → Took old new slot text → TookTo program_far old new slot
TookTo-text old new slot text few took = (
  length text,
  record { told = took.told; within = Took-le old new slot text took },
  near old (Took-le old new slot text took),
)
  where
    near : (o : Option Told) → IfSome o (λ t. length text ≤ length (left t slot))
        → IfSome o (λ t. IsNear (length text) (program_far (readable t slot)))
    near None h = tt
    near (Some t) h = omega (arith, length-take MOST_BYTES (left t slot), h, few)

-- as many bytes as are read are the first ones
pub text-far : (old new : Option Told) (slot : ℕ) (text : List ℕ) → length text ≡ MOST_READ
    → Took old new slot text → IfSome old (λ t. text ≡ take MOST_READ (left t slot))
text-far None new slot text all took = tt
text-far (Some t) new slot text all took =
    took.bytes ∙ ap (λ (n : ℕ). take n (left t slot)) all

-- at the end of a slot they are all that it had
pub text-ended : (old : Option Told) (slot : ℕ) (text : List ℕ) → length text ≤ MOST_READ
    → IfSome old (λ t. text ≡ left t slot) → IfSome old (λ t. text ≡ take MOST_READ (left t slot))
text-ended None slot text few all = tt
text-ended (Some t) slot text few all =
    sym (take_all MOST_READ text few) ∙ ap (λ (l : List ℕ). take MOST_READ l) all

-- the program of a file is that of the text which was read
pub judged-file : (name text : List ℕ) (old mid : Option Told) (i slot : ℕ)
    (r : Result ProgramEntries ProgramRefusal) → TellsSlots old i → slot ≡ i
    → mid ≡ option_map (opened_at name) old
    → IfSome mid (λ t. text ≡ take MOST_READ (left t slot)) → r ≡ judged text
    → IfSome old (λ t. judged (content t name) ≡ r)
judged-file name text old mid i slot r tells is_slot opened bytes is =
    each old (opened_bytes (λ (b : List ℕ). text ≡ take MOST_READ b) old mid slot name
    (subst (TellsSlots old) (sym is_slot) tells) opened bytes)
  where
    each : (o : Option Told) → IfSome o (λ t. text ≡ take MOST_READ (whole_file t name))
        → IfSome o (λ t. judged (content t name) ≡ r)
    each None h = tt
    each (Some t) h =
        let same : take MOST_READ (content t name) ≡ take MOST_READ (whole_file t name) =
        take-take MOST_READ MOST_BYTES (whole_file t name) (omega arith) in
        sym (judged-start (content t name)) ∙ ap judged (same ∙ sym h) ∙ sym is

-- a program's file was opened, and bytes of it were taken
module _ {T : Type 0} (name : List ℕ) (D : T → Type 0) where
  meets : (t : Told) → ¬ MeetsLong (content t) (program_file name (content t) ∷ [])
  meets t (inl long) = let wrong = long.to_end in cc
  meets t (inr none) = none

  follows : (t : Told) (n : ℕ) → IsNear n (program_far (content t name)) → (r : Result T Stop)
      → (IsErrOf r TooLong → ⊥)
      → Follows (content t) (program_file name (content t) ∷ []) D (one_slot name n) r
  follows t n near (Ok x) no_length = record {
    first = (record { name = refl; within = near }, tt);
    all = refl;
    done = λ d. ((λ wrong. cc), tt);
    too_long = λ wrong. cc;
    not_long = meets t;
  }
  follows t n near (Err e) no_length = record {
    first = (record { name = refl; within = near }, tt);
    all = tt;
    done = tt;
    too_long = λ is. absurd (no_length is);
    not_long = tt;
  }

  near_file : (old mid : Option Told) (slot n : ℕ) → IfSome old (λ t. length t.slots ≡ slot)
      → mid ≡ option_map (opened_at name) old
      → IfSome mid (λ t. IsNear n (program_far (readable t slot)))
      → IfSome old (λ t. IsNear n (program_far (content t name)))
  near_file None mid slot n at opened near = tt
  near_file (Some t) mid slot n at opened near =
      let there : IsNear n (program_far (readable (opened_at name t) slot)) =
      subst (λ (o : Option Told). IfSome o (λ u. IsNear n (program_far (readable u slot)))) opened
      near in
      subst (λ (b : List ℕ). IsNear n (program_far (take MOST_BYTES b)))
      (opened_left t slot name at) there

  pub Reads-program : (old mid new : Option Told) (i j k slot : ℕ) (r : Result T Stop)
      → TellsSlots old i → slot ≡ i → mid ≡ option_map (opened_at name) old → j ≡ i + 1
      → TookTo program_far mid new slot → k ≡ j → (IsErrOf r TooLong → ⊥)
      → Reads (λ c. program_file name c ∷ []) D 1 (λ _. 1) old new i k r
  Reads-program old mid new i j k slot r tells is_slot opened one_more took same no_length =
      let at : IfSome old (λ t. length t.slots ≡ slot) =
      same_slot name program_far (λ _. false) D old i slot tells is_slot in
      record {
        more = one_slot name took.0;
        told =
            slot_is name program_far (λ _. false) D old mid new slot took.0 at opened took.1.told;
        count = omega (arith, one_more, same);
        within = omega arith;
        full = one name program_far (λ _. false) D r;
        follows = each old (near_file old mid slot took.0 at opened took.2);
      }
    where
      each : (o : Option Told) → IfSome o (λ t. IsNear took.0 (program_far (content t name)))
          → IfSome o (λ t. Follows (content t) (program_file name (content t) ∷ []) D
          (one_slot name took.0) r)
      each None near = tt
      each (Some t) near = follows t took.0 near r no_length
