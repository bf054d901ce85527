-- What contracts see of the shelves and sinks in memory.
use Rattle.std.specs.Prelude.{ℕ, List, ◌∷◌, ◌++◌, min, length, ◌==◌, Bool, ◌||◌, not}
use Rattle.std.specs.List.{list_any}
use Rattle.bolt_io.specs.Faults.{one_more}
use Rattle.bolt_io.specs.Told.{Told, has_file, left, opened_at, taken_from}
use Rattle.bolt_io.specs.declared.plan.FaultPlan.{FaultPlan}

-- a shelf: its files and slots, and the most bytes that a read takes
pub record ShelfState : Type 0 where
  pub told : Told
  pub piece : ℕ

-- a sink: what was written, and the most bytes that a write takes
pub record SinkState : Type 0 where
  pub bytes : List ℕ
  pub piece : ℕ

-- a shelf with a plan of the calls that are to fail
pub record FailingShelf : Type 0 where
  pub shelf : ShelfState
  pub plan : FaultPlan

-- a sink with such a plan
pub record FailingSink : Type 0 where
  pub sink : SinkState
  pub plan : FaultPlan

-- whether the next call is listed to fail; calls are numbered from 1
abbrev pub next_fails : FaultPlan → Bool
next_fails p = list_any (λ call. call == one_more p.calls) p.fails

-- one call more was made
abbrev pub with_call : FaultPlan → FaultPlan
with_call p = record { fails = p.fails; calls = one_more p.calls; faults = p.faults }

-- one call more was made, and failed
abbrev pub with_failed_call : FaultPlan → FaultPlan
with_failed_call p = record {
  fails = p.fails;
  calls = one_more p.calls;
  faults = one_more p.faults;
}

-- whether a shelf with a plan fails to open that name: the call is listed to fail, or there is no
-- such file
abbrev pub open_fails : FailingShelf → List ℕ → Bool
open_fails s name = next_fails s.plan || not (has_file s.shelf.told.files name)

-- how many bytes a read takes from slot k into a buffer with that room
abbrev pub read_length : ShelfState → ℕ → ℕ → ℕ
read_length s k room = min (min (length (left s.told k)) s.piece) room

-- how many bytes of a text a write takes
abbrev pub write_length : SinkState → List ℕ → ℕ
write_length s text = min (length text) s.piece

-- a name has these bytes from now on
abbrev pub with_file : List ℕ → List ℕ → ShelfState → ShelfState
with_file name bytes s = record {
  told = record {
    files = record { name = name; bytes = bytes } ∷ s.told.files;
    slots = s.told.slots;
  };
  piece = s.piece;
}

-- one slot more
abbrev pub with_slot : List ℕ → ShelfState → ShelfState
with_slot name s = record { told = opened_at name s.told; piece = s.piece }

-- n bytes more were taken from slot k
abbrev pub with_taken : ℕ → ℕ → ShelfState → ShelfState
with_taken k n s = record { told = taken_from k n s.told; piece = s.piece }

-- the text was appended
abbrev pub with_text : List ℕ → SinkState → SinkState
with_text text s = record { bytes = s.bytes ++ text; piece = s.piece }
