-- What a feed of lines stands for.
use Rattle.std.specs.Prelude.{◌≡◌, ◌⊎◌, ℕ, ◌+◌, ◌-◌, ◌<◌, ◌≤◌, false, List, [], ◌++◌, length}
use Rattle.std.specs.Prelude.{take, drop, slice_index, Option, IfSome}
use Rattle.std.specs.Option.{option_map}
use Rattle.std.specs.List.{All}
use Rattle.bolt_io.specs.Told.{Told, left, taken_from}
use Rattle.bolt_io.specs.declared.whole.TheConstants.{MOST_BYTES}
use Rattle.lexical.specs.Bytes.{is_line_feed, without_carriage_return}
use Rattle.text_lines.specs.Lines.{seen_lines, seen_ended_lines, after_lines}
use Rattle.text_lines.specs.declared.line_feed.TheConstants.{BLOCK_BYTES}

-- a slot, the bytes that were taken from it and not yet answered, how many lines were answered and
-- how many bytes taken
pub record Feed : Type 0 where
  pub slot : ℕ
  pub pending : List ℕ
  pub lines : ℕ
  pub taken : ℕ

-- a feed of a slot before its first read
abbrev pub fresh_feed : ℕ → Feed
fresh_feed slot = record { slot = slot; pending = []; lines = 0; taken = 0 }

-- what a slot has left, as far as it is read
abbrev pub readable : Told → ℕ → List ℕ
readable t slot = take MOST_BYTES (left t slot)

-- the bytes that are not yet answered, where a feed takes no more than `most` in all
abbrev pub rest_within : ℕ → Told → Feed → List ℕ
rest_within most t feed = feed.pending ++ take (most - feed.taken) (left t feed.slot)

abbrev pub rest : Told → Feed → List ℕ
rest = rest_within MOST_BYTES

-- the lines that are still to come, of a feed over a shelf that tells its bytes
abbrev pub ahead : Option Told → Feed → Option (List (Option (List ℕ)))
ahead told feed = option_map (λ t. seen_lines (rest t feed)) told

-- the lines that an LF ends in the first `most` bytes that a feed takes, and that are not yet
-- answered
abbrev pub ended_within : ℕ → Option Told → Feed → Option (List (Option (List ℕ)))
ended_within most told feed = option_map (λ t. seen_ended_lines (rest_within most t feed)) told

abbrev pub ended_ahead : Option Told → Feed → Option (List (Option (List ℕ)))
ended_ahead = ended_within MOST_BYTES

-- the bytes that are still to come behind that many lines
abbrev pub bytes_after : ℕ → Option Told → Feed → Option (List ℕ)
bytes_after n told feed = option_map (λ t. after_lines n (rest t feed)) told

-- the slot has as many bytes as are taken at most: once they are taken, another read is needed to
-- see its end
abbrev pub MeetsLimit : Feed → Told → Type 0
MeetsLimit feed t = MOST_BYTES ≤ feed.taken + length (left t feed.slot)

-- the next line isn't to be had: no LF ends it in the bytes that are taken at most, and the slot
-- may have more
pub record IsStuck (feed : Feed) (t : Told) : Type 0 where
  pub limit : MeetsLimit feed t
  pub none : seen_ended_lines (rest t feed) ≡ []

-- nothing more is to come: all bytes of the slot were taken and answered
abbrev pub IsAtEnd : Option Told → Feed → Type 0
IsAtEnd told feed = (feed.pending ≡ []) × IfSome told (λ t. left t feed.slot ≡ [])

-- no line ends in the bytes that are not yet answered
abbrev pub NeedsMore : Feed → Type 0
NeedsMore feed = All (λ b. is_line_feed b ≡ false) feed.pending

-- this many bytes more were taken from a slot, no more than it had, and nothing else changed
pub record Advances (old new : Option Told) (slot n : ℕ) : Type 0 where
  pub told : new ≡ option_map (taken_from slot n) old
  pub within : IfSome old (λ t. n ≤ length (left t slot))

-- the feed once that many bytes were answered as a line
abbrev pub answered : ℕ → Feed → Feed
answered whole feed = record feed { pending = drop whole feed.pending; lines = feed.lines + 1 }

-- an LF ends the first line of the bytes, which has `len` bytes, and `whole` with its end
pub record EndsLine (bytes : List ℕ) (len whole : ℕ) : Type 0 where
  pub some : 0 < whole
  pub within : whole ≤ length bytes
  pub inside : len ≤ whole
  pub none_before : All (λ b. is_line_feed b ≡ false) (take (whole - 1) bytes)
  pub here : slice_index bytes (whole - 1) ≡ 10
  pub line : take len bytes ≡ without_carriage_return (take (whole - 1) bytes)

-- the bytes not yet answered are the last line of the slot, which has no end
pub record IsLastLine (told : Option Told) (feed : Feed) (len whole : ℕ) : Type 0 where
  pub some : 0 < whole
  pub bare : len ≡ whole
  pub all : whole ≡ length feed.pending
  pub none : NeedsMore feed
  pub fewer : feed.taken < MOST_BYTES
  pub ended : IfSome told (λ t. left t feed.slot ≡ [])

-- the first `len` of the bytes not yet answered are the next line, and `whole` of them are it with
-- its end
abbrev pub IsFront : Option Told → Feed → ℕ → ℕ → Type 0
IsFront told feed len whole = EndsLine feed.pending len whole ⊎ IsLastLine told feed len whole

-- a read took n bytes from a slot, and none only at its end
pub record ReadsOn (old new : Option Told) (slot n : ℕ) : Type 0 where
  pub told : new ≡ option_map (taken_from slot n) old
  pub within : IfSome old (λ t. n ≤ length (left t slot))
  pub at_end : n ≡ 0 → IfSome old (λ t. left t slot ≡ [])

-- how a feed keeps its bytes: those from `at` to `end` of a block aren't yet answered
pub record IsKept (at end size lines taken : ℕ) : Type 0 where
  pub begins : at ≤ end
  pub ends : end ≤ size
  pub one_block : size ≤ BLOCK_BYTES
  pub counted : lines + end ≤ taken + at
  pub most : taken ≤ MOST_BYTES

-- some bytes were taken from a slot, or none, and nothing else changed
abbrev pub TookBytes : Option Told → Option Told → ℕ → Type 0
TookBytes old new slot = (n : ℕ) × Advances old new slot n
