-- What a call has done that is to read files and to write a text.
use Rattle.std.specs.Prelude.{ℕ, List, [], ◌∷◌, ◌++◌, length, take, drop, Option, Result, IfSome}
use Rattle.std.specs.Prelude.{IfOk}
use Rattle.bolt_io.specs.Told.{Told}
use Rattle.bolt_io.specs.declared.files.Slot.{Slot}
use Rattle.batch_steps.specs.declared.reply.Reply.{Reply}
use Rattle.batch_steps.specs.Steps.{IsMade}
use Rattle.batch_steps.specs.Files.{Content, Named}
use Rattle.batch_steps.specs.Course.{Opening, reply_of, stream_of}
use Rattle.batch_steps.specs.Ended.{ended_batches}
use Rattle.command_files.specs.declared.stop.Stop.{Stop}
use Rattle.command_files.specs.Files.{content}
use Rattle.command_files.specs.Reads.{Reads}
use Rattle.command_files.specs.Replied.{Replied, Leads}
use Rattle.command_files.specs.Stops.{BlamesShelf, BlamesSink}
use Rattle.batch_run.specs.Ahead.{IsReadStop}

-- a shelf and a sink at one moment
pub record World : Type 0 where
  pub told : Option Told
  pub opened : ℕ
  pub shelf_faults : ℕ
  pub written : Option (List ℕ)
  pub sink_faults : ℕ

abbrev pub world_of : Option Told → ℕ → ℕ → Option (List ℕ) → ℕ → World
world_of told opened shelf_faults written sink_faults =
    record {
      told = told;
      opened = opened;
      shelf_faults = shelf_faults;
      written = written;
      sink_faults = sink_faults;
    }

-- the same, by what is seen of them
abbrev pub world : {A B : Type 0} → (A → Option Told) → (A → ℕ) → (A → ℕ) → (B → Option (List ℕ))
    → (B → ℕ) → A → B → World
world told opened shelf_faults written sink_faults shelf sink =
    world_of (told shelf) (opened shelf) (shelf_faults shelf) (written sink) (sink_faults sink)

-- what holds of each slot
abbrev pub Each : (Slot → Type 0) → List Slot → Type 0
Each P [] = Unit {0}
Each P (s ∷ ss) = P s × Each P ss

-- what was written once the stream's slot was opened: the opening text, and where the reading
-- stopped also what became of each
-- batch that a `commit` ended in the bytes that were taken
pub record Begun (o : Opening) (c : Content) (old new : Option (List ℕ)) (r : Result ℕ Stop)
    (s : Slot) : Type 0 where
  pub opening : Leads o.text old new
  pub kept_up : IsReadStop r → Leads
      (o.text ++ o.of_batches (ended_batches (take s.taken (c o.stream)))) old new

-- the same of the slots behind those of the files that are read before the stream: one, or none
abbrev pub BegunAfter : (Content → Result Opening Reply) → (Content → List Named) → List Slot
    → Option Told
    → Option (List ℕ) → Option (List ℕ) → Result ℕ Stop → Type 0
BegunAfter op before more told old new r = IfSome told (λ t. IfOk (op (content t)) (λ o.
    Each (Begun o (content t) old new r) (drop (length (before (content t))) more)))

-- a command with that opening, which reads some files before its stream
pub record Conducts (op : Content → Result Opening Reply) (before : Content → List Named) (most : ℕ)
    (slots : ℕ → ℕ)
    (old new : World) (r : Result ℕ Stop) : Type 0 where
  pub reply : Replied (λ c. reply_of (op c) c) old.told old.written new.written r
  pub reads : Reads (λ c. before c ++ stream_of (op c) c) IsMade most slots old.told new.told
      old.opened new.opened r
  pub begun : BegunAfter op before reads.more old.told old.written new.written r
  pub shelf_cause : BlamesShelf r old.shelf_faults new.shelf_faults
  pub sink_cause : BlamesSink r old.sink_faults new.sink_faults
