-- The streams and the questions of a live run.
use Rattle.std.proofs.Common.{◌≡◌, ◌∙◌, ℕ, ◌+◌, List, ◌++◌, length, map, refl, sym, ap, subst}
use Rattle.std.proofs.Common.{Bor}
use Rattle.std.specs.Prelude.{Option, Some, None, Result, Ok, Err, IfSome, IsOk, ⊤}
use Rattle.std.specs.Option.{option_map}
use Rattle.std.proofs.lemmas.List.{length-map}
use Rattle.bolt_io.specs.Told.{Told}
use Rattle.bolt_io.specs.declared.files.Slot.{Slot}
use Rattle.batch_steps.specs.Files.{Content}
use Rattle.batch_steps.specs.declared.reply.Reply.{Reply}
use Rattle.command_course.specs.Still.{both_files, program_count}
use Rattle.command_files.specs.Files.{content}
use Rattle.command_files.specs.Reads.{Reads, with_slots}
use Rattle.command_files.specs.declared.stop.Stop.{Stop}
use Rattle.command_files.proofs.ReadSteps.{Reads-as, Reads-err, Reads-failed, Reads-then}
use Rattle.command_files.proofs.ReadSteps.{told_all, told_map}
use Rattle.live_streams.specs.Texts.{whole_files}
use Rattle.live_words.specs.declared.command.LiveCommand.{LiveCommand}
use Rattle.report_text.specs.Runs.{Run}
use Rattle.live_opening.specs.Files.{ask_names, files_by, live_count, live_files, live_slots}
use Rattle.live_opening.specs.Files.{names_behind, start_slots, stream_names, text_count}
use Rattle.live_opening.specs.Files.{text_files}
use Rattle.live_opening.specs.Runs.{live_run}

-- as many names as places
pub names-count : (option : List ℕ) (words : List (List ℕ)) (places : List ℕ)
    (names : List (Bor (List ℕ)))
    → map (λ n. n.now) names ≡ names_behind option words places
    → length names ≡ length places
names-count option words places names is =
    sym (length-map names (λ n. n.now)) ∙ ap length is ∙ length-map places _

-- the names that were collected of a command's places
pub names-of : (option : List ℕ) (words : List (List ℕ)) (given places : List ℕ)
    (names slice : List (Bor (List ℕ))) → slice ≡ names → given ≡ places
    → map (λ n. n.now) names ≡ names_behind option words given
    → map (λ n. n.now) slice ≡ names_behind option words places
names-of option words given places names slice same all is =
    ap (map (λ n. n.now)) same ∙ is ∙ ap (names_behind option words) all

-- what was read of the files of these names
module _ (words : List (List ℕ)) (command : LiveCommand) (streams asks : List (List ℕ))
    (named : streams ≡ stream_names words command) (asked : asks ≡ ask_names words command)
    (told : Option Told) where
  pub Reads-texts : {T : Type 0} (m n : ℕ) (new : Option Told) (i k : ℕ) (r : Result T Stop)
      → m ≡ length command.streams → n ≡ length command.asks
      → Reads (λ c. whole_files streams c ++ whole_files asks c) (λ _. ⊤) (m + n) (λ _. m + n)
      told new i k r
      → Reads (text_files words command) (λ _. ⊤) (text_count command) (λ _. text_count command)
      told new i k r
  Reads-texts m n new i k r all all_asked reads =
      let sum : m + n ≡ text_count command = ap (λ (x : ℕ). x + n) all
      ∙ ap (λ (x : ℕ). length command.streams + x) all_asked in
      let counted =
      subst (λ (x : ℕ). Reads (λ c. whole_files streams c ++ whole_files asks c) (λ _. ⊤) x
      (λ _. x) told new i k r) sum reads in
      let first =
      subst (λ (l : List (List ℕ)). Reads (λ c. whole_files l c ++ whole_files asks c) (λ _. ⊤)
      (text_count command) (λ _. text_count command) told new i k r) named counted in
      subst (λ (l : List (List ℕ)). Reads
      (λ c. whole_files (stream_names words command) c ++ whole_files l c) (λ _. ⊤)
      (text_count command) (λ _. text_count command) told new i k r) asked first

-- what is said of the shelf after files were opened holds of it before
pub told-before : (P : Content → Type 0) (told mid : Option Told) (more : List Slot)
    → mid ≡ option_map (with_slots more) told → IfSome mid (λ t. P (content t))
    → IfSome told (λ t. P (content t))
told-before P None mid more moved h = tt
told-before P (Some t) mid more moved h =
    subst (λ (o : Option Told). IfSome o (λ u. P (content u))) moved h

module _ (words : List (List ℕ)) (command : LiveCommand) (told : Option Told) (i : ℕ) where
  -- the reading of the program or the graph stopped
  pub live-stopped : {A B : Type 0} (new : Option Told) (k : ℕ) (e : Stop)
      → Reads (both_files words command.program command.graph) IsOk
      (program_count command.program + 1) (start_slots command.program) told new i k
      (let r : Result (Result A Reply) Stop = Err e in r)
      → Reads (live_files words command) IsOk (live_count command) (live_slots command) told new i
      k (let r : Result (Result B Reply) Stop = Err e in r)
  live-stopped new k e first =
      Reads-err (both_files words command.program command.graph) (live_files words command) IsOk
      IsOk (program_count command.program + 1) (text_count command)
      (start_slots command.program) (live_slots command) (live_slots command) told
      (λ c. files_by (live_run words command c) words command c) new i k e first
      (told_all _ told (λ t. refl))

  -- nothing was refused, and the streams and the questions were read, or their reading stopped
  module _ {A : Type 0} (mid new : Option Told) (j k : ℕ) (x : A) (run : Run)
      (is : IfSome told (λ t. live_run words command (content t)
      ≡ (let r : Result Run Reply = Ok run in r)))
      (first : Reads (both_files words command.program command.graph) IsOk
      (program_count command.program + 1) (start_slots command.program) told mid i j
      (let r : Result (Result A Reply) Stop = Ok (Ok x) in r)) where
    both : IfSome told (λ t. live_files words command (content t)
        ≡ both_files words command.program command.graph (content t)
        ++ text_files words command (content t))
    both =
        told_map (λ t. live_run words command (content t)
        ≡ (let r : Result Run Reply = Ok run in r))
        (λ t. live_files words command (content t)
        ≡ both_files words command.program command.graph (content t)
        ++ text_files words command (content t)) told
        (λ t opened. ap (λ (r : Result Run Reply).
        both_files words command.program command.graph (content t)
        ++ files_by r words command (content t)) opened) is

    pub live-read : {B : Type 0} (y : B)
        → Reads (text_files words command) (λ _. ⊤) (text_count command)
        (λ _. text_count command) mid new j k (let r : Result B Stop = Ok y in r)
        → Reads (live_files words command) IsOk (live_count command) (live_slots command) told new
        i k (let r : Result (Result B Reply) Stop = Ok (Ok y) in r)
    unfolding Reads-then
    live-read {B} y later =
        Reads-as (live_files words command) (live_files words command) (λ _. ⊤) IsOk
        (live_count command) (λ _. live_count command) (live_slots command) told new i k
        (told_all _ told (λ t. refl)) y (let z : Result B Reply = Ok y in z)
        (Reads-then (both_files words command.program command.graph) (live_files words command)
        IsOk (λ _. ⊤) (program_count command.program + 1) (text_count command)
        (start_slots command.program) (λ _. text_count command) (λ _. live_count command) told
        (text_files words command) mid new i j k (let z : Result A Reply = Ok x in z)
        (let r : Result B Stop = Ok y in r) first (λ d. refl) refl later both) (λ d. tt) refl

    pub live-halted : {B : Type 0} (e : Stop)
        → Reads (text_files words command) (λ _. ⊤) (text_count command)
        (λ _. text_count command) mid new j k (let r : Result B Stop = Err e in r)
        → Reads (live_files words command) IsOk (live_count command) (live_slots command) told new
        i k (let r : Result (Result B Reply) Stop = Err e in r)
    unfolding Reads-then
    live-halted {B} e later =
        Reads-failed (live_files words command) (live_files words command) (λ _. ⊤) IsOk
        (live_count command) (λ _. live_count command) (live_slots command) told new i k
        (told_all _ told (λ t. refl)) (let r : Result B Stop = Err e in r) e
        (Reads-then (both_files words command.program command.graph) (live_files words command)
        IsOk (λ _. ⊤) (program_count command.program + 1) (text_count command)
        (start_slots command.program) (λ _. text_count command) (λ _. live_count command) told
        (text_files words command) mid new i j k (let z : Result A Reply = Ok x in z)
        (let r : Result B Stop = Err e in r) first tt tt later both)
        (λ is. ap (λ (x : Stop). let r : Result B Stop = Err x in r) is)
