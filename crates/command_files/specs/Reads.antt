-- What a call did with a shelf.
use Rattle.std.specs.Prelude.{◌≡◌, ℕ, ◌+◌, ◌≤◌, List, ◌++◌, length, Option, Result, IfSome, IfOk}
use Rattle.std.specs.Prelude.{OnOk, IsErrOf}
use Rattle.std.specs.Option.{option_map}
use Rattle.bolt_io.specs.Told.{Told}
use Rattle.bolt_io.specs.declared.files.Slot.{Slot}
use Rattle.text_lines.specs.Feed.{Advances, readable}
use Rattle.batch_steps.specs.Files.{Content, Named}
use Rattle.command_files.specs.declared.stop.Stop.{Stop}
use Rattle.command_files.specs.declared.stop.Stop.TheVariants.{TooLong}
use Rattle.command_files.specs.Files.{content, IsNear, MeetsLong, AreFirst, AreRead}

-- some bytes were taken of a slot, no more than a block past the place to which its bytes are read
abbrev pub TookTo : (List ℕ → ℕ) → Option Told → Option Told → ℕ → Type 0
TookTo far old new slot =
    (n : ℕ) × Advances old new slot n × IfSome old (λ t. IsNear n (far (readable t slot)))

-- these slots more, and the files and the other slots as they were
abbrev pub with_slots : List Slot → Told → Told
with_slots more t = record { files = t.files; slots = t.slots ++ more }

-- how the slots that a call opened follow the list of the files that it is to read
pub record Follows {T : Type 0} (c : Content) (files : List Named) (Done : T → Type 0)
    (more : List Slot) (r : Result T Stop) : Type 0 where
  -- they are of the first files of the list, in order
  pub first : AreFirst more files
  -- with Ok of all of them, and each was taken to its end where all was to be done
  pub all : OnOk r (length more ≡ length files)
  pub done : IfOk r (λ x. Done x → AreRead c more files)
  -- TooLong comes only where one of them is too long, and Ok only where none is
  pub too_long : IsErrOf r TooLong → MeetsLong c files
  pub not_long : OnOk r (¬ MeetsLong c files)

-- A call that is to read these files opened some slots, and left the files and the slots from
-- before as they were
pub record Reads {T : Type 0} (files : Content → List Named) (Done : T → Type 0) (most : ℕ)
    (slots : T → ℕ)
    (old new : Option Told) (before after : ℕ) (r : Result T Stop) : Type 0 where
  pub more : List Slot
  pub told : new ≡ option_map (with_slots more) old
  pub count : after ≡ before + length more
  -- so many at most, and with Ok so many
  pub within : length more ≤ most
  pub full : IfOk r (λ x. length more ≡ slots x)
  pub follows : IfSome old (λ t. Follows (content t) (files (content t)) Done more r)
