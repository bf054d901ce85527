-- How a call ends that is to read files and to write a text, whatever the text.
use Rattle.std.specs.Prelude.{◌≡◌, ◌≢◌, ◌⊎◌, ℕ, ◌+◌, ◌≤◌, List, length, IfSome}
use Rattle.std.specs.Option.{option_map}
use Rattle.bolt_io.specs.Faults.{Rose}
use Rattle.bolt_io.specs.declared.files.Slot.{Slot}
use Rattle.batch_steps.specs.Steps.{IsMade}
use Rattle.batch_steps.specs.Files.{Content, Named}
use Rattle.command_files.specs.Files.{content, AreFirst, AreRead, MeetsLong}
use Rattle.command_files.specs.Reads.{with_slots}
use Rattle.batch_run.specs.Conducts.{World}

-- a status that the words and the files decide: 0 or 1 of what was done, 2 where the words are
-- refused, 3 where the program is, and 4 where the graph is
abbrev pub IsOwn : ℕ → Type 0
IsOwn status = (status ≡ 0) ⊎ (status ≡ 1) ⊎ (status ≡ 2) ⊎ (status ≡ 3) ⊎ (status ≡ 4)

-- a status that ends a command early: 5 for a fault of the shelf, 6 for one of the sink, 7 for want
-- of memory, and 8 for a file that is too long
abbrev pub IsEarly : ℕ → Type 0
IsEarly status = (status ≡ 5) ⊎ (status ≡ 6) ⊎ (status ≡ 7) ⊎ (status ≡ 8)

-- A call ends with a status. `Decided` has the statuses that its words can come to, `files` the
-- files that it is to read, `most` how many the words name, and `slots` how many are opened where
-- it ends with such a status.
pub record Ends (Decided : ℕ → Type 0) (files : Content → List Named) (most : ℕ) (slots_of : ℕ → ℕ)
    (old new : World) (status : ℕ) : Type 0 where
  -- the status is one of these nine
  pub known : IsOwn status ⊎ IsEarly status
  -- where it is no early one, it is one of those that the words can come to, also of a shelf that
  -- tells nothing
  pub decided : IsOwn status → Decided status
  -- whatever the status, the files and the slots from before are as they were, and the slots more
  -- are of the first files of the list, in order, none of which was read further than it is to be;
  -- with a decided status they are of all of them
  pub more : List Slot
  pub slots : new.told ≡ option_map (with_slots more) old.told
  pub count : new.opened ≡ old.opened + length more
  pub first : IfSome old.told (λ t. AreFirst more (files (content t)))
  pub all : IsOwn status → IfSome old.told (λ t. length more ≡ length (files (content t)))
  -- with 0 or 1 each was taken to its end
  pub all_read : IsMade status → IfSome old.told
      (λ t. AreRead (content t) more (files (content t)))
  -- also where nothing is told there are no more than the words name, and with a decided status so
  -- many as are opened then
  pub within : length more ≤ most
  pub full : IsOwn status → length more ≡ slots_of status
  -- 8 comes only where one of the files gives 2^40 bytes without an end, and a decided status only
  -- where none does
  pub too_long : status ≡ 8 → IfSome old.told (λ t. MeetsLong (content t) (files (content t)))
  pub not_long : IsOwn status → IfSome old.told
      (λ t. ¬ MeetsLong (content t) (files (content t)))
  -- 5 and 6 come only where the count of faults rose, and every other status leaves it
  pub shelf_failed : status ≡ 5 → Rose old.shelf_faults new.shelf_faults
  pub sink_failed : status ≡ 6 → Rose old.sink_faults new.sink_faults
  pub shelf_calm : status ≢ 5 → new.shelf_faults ≡ old.shelf_faults
  pub sink_calm : status ≢ 6 → new.sink_faults ≡ old.sink_faults
  -- where neither count rose and no file is too long, the status is a decided one, or memory was
  -- wanting
  pub complete : IfSome old.told (λ t. ¬ Rose old.shelf_faults new.shelf_faults
      → ¬ Rose old.sink_faults new.sink_faults
      → ¬ MeetsLong (content t) (files (content t)) → IsOwn status ⊎ (status ≡ 7))
