-- Why a text gave no graph, and how far it was read.
use Rattle.std.specs.Prelude.{◌≡◌, ℕ, ◌+◌, ◌<◌, ◌≤◌, List, [], length, take, Option, Some, None}
use Rattle.std.specs.Prelude.{Result, Ok, Err, IfSome, ⊤}
use Rattle.bolt_base.specs.declared.limits.Limits.{Limits}
use Rattle.bolt_base.specs.declared.limits.LineCause.{LineCause}
use Rattle.bolt_base.specs.Graph.{Graph}
use Rattle.bolt_io.specs.Told.{Told, left}
use Rattle.bolt_io.specs.declared.whole.TheConstants.{MOST_BYTES}
use Rattle.text_lines.specs.declared.feed.FeedError.{FeedError}
use Rattle.text_lines.specs.declared.feed.FeedError.TheVariants.{Shelf as FeedShelf}
use Rattle.text_lines.specs.declared.feed.FeedError.TheVariants.{Turns as FeedTurns}
use Rattle.text_lines.specs.declared.feed.FeedError.TheVariants.{Memory as FeedMemory}
use Rattle.text_lines.specs.declared.line_feed.TheConstants.{BLOCK_BYTES}
use Rattle.text_lines.specs.Lines.{seen_ended_lines, lines_len}
use Rattle.text_lines.specs.Feed.{readable}
use Rattle.text_lines.specs.Reading.{ReadsSlot}
use Rattle.graph_text.specs.GraphText.{graph_of, EndedLinesAreGood}
use Rattle.graph_text.specs.declared.bad_line.BadLine.{BadLine}
use Rattle.graph_text.specs.declared.graph.GraphRefusal.{GraphRefusal}
use Rattle.graph_text.specs.declared.graph.GraphRefusal.TheVariants.{Line, Shelf, Turns, Memory}

-- an error of reading, as a refusal
abbrev pub refusal_of : FeedError → GraphRefusal
refusal_of (FeedShelf fault) = Shelf fault
refusal_of (FeedTurns taken) = Turns taken
refusal_of FeedMemory = Memory

-- the error of reading that a refusal tells, or none where a line is bad
abbrev pub reading_error : GraphRefusal → Option FeedError
reading_error (Line number cause) = None
reading_error (Shelf fault) = Some (FeedShelf fault)
reading_error (Turns taken) = Some (FeedTurns taken)
reading_error Memory = Some FeedMemory

-- the error of reading for which a call answered no graph, if any
abbrev pub stopped_by : {A : Type 0} → Result A GraphRefusal → Option FeedError
stopped_by (Ok graph) = None
stopped_by (Err refusal) = reading_error refusal

-- a fact of the line that is bad
abbrev pub IfLine : (ℕ → LineCause → Type 0) → GraphRefusal → Type 0
IfLine P (Line number cause) = P number cause
IfLine P (Shelf fault) = ⊤
IfLine P (Turns taken) = ⊤
IfLine P Memory = ⊤

-- a fact of a refusal that came where more bytes were wanted
abbrev pub IfMoreWanted : Type 0 → GraphRefusal → Type 0
IfMoreWanted P (Line number cause) = ⊤
IfMoreWanted P (Shelf fault) = P
IfMoreWanted P (Turns taken) = P
IfMoreWanted P Memory = ⊤

-- a slot has as many bytes as are taken at most, or more, and no line that ends in them is bad
pub record IsTooLong (l : Limits) (slot : ℕ) (t : Told) : Type 0 where
  pub long : MOST_BYTES ≤ length (left t slot)
  pub good : EndedLinesAreGood l (readable t slot)

-- how many bytes of a text are read for its graph: up to the end of its first bad line, or all
abbrev pub read_far_by : Result Graph BadLine → List ℕ → ℕ
read_far_by (Ok graph) text = length text
read_far_by (Err bad) text = lines_len bad.line text

abbrev pub graph_far : Limits → List ℕ → ℕ
graph_far l text = read_far_by (graph_of l text) text

-- how many bytes of a slot were taken for its graph: all; no fewer than up to the end of the bad
-- line, where the text isn't cut
-- short before; some, of which no line that ends in them is bad; as many as are taken at most; or,
-- where memory was wanting, not
-- so many without a line that ends in them
abbrev pub ReadsAsFar : Limits → ℕ → ℕ → Result Graph GraphRefusal → Told → Type 0
ReadsAsFar l slot taken (Ok graph) t = (taken ≡ length (left t slot)) × (taken < MOST_BYTES)
ReadsAsFar l slot taken (Err (Line number cause)) t =
    (lines_len number (readable t slot) ≤ taken) × (¬ IsTooLong l slot t)
ReadsAsFar l slot taken (Err (Shelf fault)) t =
    EndedLinesAreGood l (take taken (left t slot)) × (taken < MOST_BYTES)
ReadsAsFar l slot taken (Err (Turns n)) t = IsTooLong l slot t
ReadsAsFar l slot taken (Err Memory) t =
    taken ≡ MOST_BYTES → ¬ (seen_ended_lines (readable t slot) ≡ [])

-- that many bytes were taken of a slot for its graph, and nothing else changed on the shelf
pub record ReadsGraph {A : Type 0} (told : A → Option Told) (opened faults : A → ℕ) (old new : A)
    (l : Limits) (slot : ℕ)
    (result : Result Graph GraphRefusal) : Type 0 where
  pub taken : ℕ
  pub reads : ReadsSlot told opened faults old new slot 0 taken (stopped_by result)
  pub as_far : IfSome (told old) (ReadsAsFar l slot taken result)
  pub no_further : IfSome (told old) (λ t. taken ≤ graph_far l (readable t slot) + BLOCK_BYTES)
