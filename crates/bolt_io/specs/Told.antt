-- What a shelf tells: its files, and the slots that were opened.
use Rattle.std.specs.Prelude.{◌≡◌, ℕ, ◌+◌, ◌≤◌, List, [], ◌∷◌, ◌++◌, length, take, drop, Option}
use Rattle.std.specs.Prelude.{Bool, true, false, IfSome, if◌then◌else◌, slice_set, slice_index_or}
use Rattle.std.specs.Option.{option_map}
use Rattle.std.specs.Str.{bytes_eq}
use Rattle.bolt_io.specs.declared.files.File.{File}
use Rattle.bolt_io.specs.declared.files.Slot.{Slot}

-- the files by name, of which the first with a name is the one that counts, and the slots in the
-- order in which they were opened
pub record Told : Type 0 where
  pub files : List File
  pub slots : List Slot

-- whether there is a file of that name
abbrev pub has_file : List File → List ℕ → Bool
has_file [] name = false
has_file (f ∷ fs) name = if bytes_eq f.name name then true else has_file fs name

-- the bytes of the file of that name, none where there is no such file
abbrev pub bytes_of : List File → List ℕ → List ℕ
bytes_of [] name = []
bytes_of (f ∷ fs) name = if bytes_eq f.name name then f.bytes else bytes_of fs name

abbrev pub no_slot : Slot
no_slot = record { name = []; taken = 0 }

-- the slot of that number
abbrev pub slot_at : List Slot → ℕ → Slot
slot_at slots k = slice_index_or slots k no_slot

-- how many bytes were taken from a slot
abbrev pub taken_of : Told → ℕ → ℕ
taken_of t k = (slot_at t.slots k).taken

-- all the bytes of a slot's file
abbrev pub file_of : Told → ℕ → List ℕ
file_of t k = bytes_of t.files (slot_at t.slots k).name

-- what a slot has left
abbrev pub left : Told → ℕ → List ℕ
left t k = drop (taken_of t k) (file_of t k)

-- one slot more, at the first byte of the file of that name
abbrev pub opened_at : List ℕ → Told → Told
opened_at name t = record {
  files = t.files;
  slots = t.slots ++ record { name = name; taken = 0 } ∷ [];
}

-- n bytes more were taken from slot k
abbrev pub taken_from : ℕ → ℕ → Told → Told
taken_from k n t = record {
  files = t.files;
  slots = slice_set t.slots k (record {
    name = (slot_at t.slots k).name;
    taken = (slot_at t.slots k).taken + n;
  });
}

-- a read gave the next n bytes of the rest in the first n places of the buffer, and none only at
-- the end
pub record GivesNext (rest : List ℕ) (n : ℕ) (buf : List ℕ) : Type 0 where
  pub bytes : take n buf ≡ take n rest
  pub within : n ≤ length rest
  pub at_end : n ≡ 0 → rest ≡ []

-- a shelf tells as many slots as were opened
abbrev pub TellsSlots : Option Told → ℕ → Type 0
TellsSlots told n = IfSome told (λ t. length t.slots ≡ n)

-- the files alone
abbrev pub files_of : Option Told → Option (List File)
files_of told = option_map (λ t. t.files) told

-- these bytes were taken from slot k, and were the next that it had
pub record Took (old new : Option Told) (k : ℕ) (taken : List ℕ) : Type 0 where
  pub told : new ≡ option_map (taken_from k (length taken)) old
  pub bytes : IfSome old (λ t. taken ≡ take (length taken) (left t k))

-- some bytes were, or none
abbrev pub TookSome : Option Told → Option Told → ℕ → Type 0
TookSome old new k = (taken : List ℕ) × Took old new k taken

-- no more was taken from slot k than its file has
abbrev pub IsWithinFile : Told → ℕ → Type 0
IsWithinFile t k = taken_of t k ≤ length (file_of t k)

-- all of the file of slot k was taken
abbrev pub IsTakenWhole : Told → ℕ → Type 0
IsTakenWhole t k = taken_of t k ≡ length (file_of t k)
