-- The files that a command reads, as far as a shelf tells them.
use Rattle.bolt_io.specs.declared.whole.TheConstants.{MOST_BYTES}
use Rattle.std.specs.Prelude.{◌≡◌, ◌⊎◌, ℕ, ◌+◌, ◌≤◌, true, List, [], ◌∷◌, length, take}
use Rattle.bolt_io.specs.Told.{Told, bytes_of}
use Rattle.bolt_io.specs.declared.files.Slot.{Slot}
use Rattle.text_lines.specs.declared.line_feed.TheConstants.{BLOCK_BYTES}
use Rattle.batch_steps.specs.Files.{Content, Named}

-- all the bytes of the file of that name, none where there is no such file
abbrev pub whole_file : Told → List ℕ → List ℕ
whole_file t name = bytes_of t.files name

-- those of them that count: of a file of 2^40 bytes or more the first 2^40
abbrev pub content : Told → Content
content t name = take MOST_BYTES (whole_file t name)

-- it is to be read to its end, and gives 2^40 bytes without one
pub record IsLong (c : Content) (f : Named) : Type 0 where
  pub to_end : f.to_end ≡ true
  pub long : MOST_BYTES ≤ length (c f.name)

-- one of some files is
abbrev pub MeetsLong : Content → List Named → Type 0
MeetsLong c [] = ⊥
MeetsLong c (f ∷ fs) = IsLong c f ⊎ MeetsLong c fs

-- so many bytes were taken of what is read that far: a reader takes blocks, and so at most one past
-- that place
abbrev pub IsNear : ℕ → ℕ → Type 0
IsNear taken far = taken ≤ far + BLOCK_BYTES

-- the slot is of that file, and it is read no further
pub record IsOf (f : Named) (s : Slot) : Type 0 where
  pub name : s.name ≡ f.name
  pub within : IsNear s.taken f.far

-- slots for the first of some files, in order
abbrev pub AreFirst : List Slot → List Named → Type 0
AreFirst [] fs = Unit {0}
AreFirst (s ∷ ss) [] = ⊥
AreFirst (s ∷ ss) (f ∷ fs) = IsOf f s × AreFirst ss fs

-- the slot has taken the file, to its end where it is to be
abbrev pub IsRead : Content → Slot → Named → Type 0
IsRead c s f = f.to_end ≡ true → s.taken ≡ length (c f.name)

-- each slot has taken its file
abbrev pub AreRead : Content → List Slot → List Named → Type 0
AreRead c [] fs = Unit {0}
AreRead c (s ∷ ss) [] = ⊥
AreRead c (s ∷ ss) (f ∷ fs) = IsRead c s f × AreRead c ss fs
