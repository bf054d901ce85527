-- The batches that a live run made.
use Rattle.std.specs.Prelude.{◌≡◌, ℕ, ◌+◌, ◌-◌, ◌<◌, ◌≤◌, ◌==◌, if◌then◌else◌, List, []}
use Rattle.std.specs.Prelude.{◌∷◌, length, take, slice_get, slice_index_or, Some, None}
use Rattle.std.specs.List.{All, flat_map, range_with_len}
use Rattle.bolt_base.specs.Edits.{after}
use Rattle.bolt_base.specs.Graph.{Graph, vertices}
use Rattle.bolt_base.specs.declared.answer.Choice.{Choice}
use Rattle.bolt_base.specs.declared.edge.Edit.{Edit}
use Rattle.vertex_expr.specs.declared.program.ProgramEntries.{ProgramEntries}
use Rattle.graph_text.specs.declared.batch_reader.TheConstants.{MOST_EDITS}
use Rattle.graph_text.specs.declared.batch_text.BatchText.{BatchText}
use Rattle.round_journal.specs.Replays.{outcome_on}
use Rattle.round_journal.specs.declared.outcome.Outcome.{Outcome}
use Rattle.round_journal.specs.declared.outcome.Outcome.TheVariants.{Accepted, Refused, Memory}
use Rattle.live_course.specs.declared.made.MadeEntry.{MadeEntry}

-- ---- the batches of files
abbrev pub no_batch : BatchText
no_batch = record { first_line = 0; edits = []; lines = []; bad = None }

-- the batches of a stream, none where there is no such stream
abbrev pub file_of : List (List BatchText) → ℕ → List BatchText
file_of files stream = slice_index_or files stream []

-- the batch that an entry says was made
abbrev pub batch_of : List (List BatchText) → MadeEntry → BatchText
batch_of files e = slice_index_or (file_of files e.stream) (e.number - 1) no_batch

-- a batch has a line for each edit, and no more edits than there may be
abbrev pub IsSound : BatchText → Type 0
IsSound b = (length b.lines ≡ length b.edits) × (length b.edits ≤ MOST_EDITS)

abbrev pub AreSound : List (List BatchText) → Type 0
AreSound files = All (λ bs. All IsSound bs) files

-- ---- accepted ones
-- what an outcome adds to the accepted batches, each a list of edits
abbrev pub if_accepted : Outcome → List Edit → List (List Edit)
if_accepted (Accepted round added removed edges kept visits) es = es ∷ []
if_accepted (Refused line cause) es = []
if_accepted Memory es = []

-- the edits of each accepted batch, in order
abbrev pub accepted : List (List BatchText) → List MadeEntry → List (List Edit)
accepted files made = flat_map (λ e. if_accepted e.outcome (batch_of files e).edits) made

-- the graph after some batches, each a list of edits
abbrev pub graph_after : Graph → List (List Edit) → Graph
graph_after g batches = after g (flat_map (λ es. es) batches)

-- ---- numbers
abbrev pub one_if_accepted : Outcome → ℕ
one_if_accepted (Accepted round added removed edges kept visits) = 1
one_if_accepted (Refused line cause) = 0
one_if_accepted Memory = 0

abbrev pub one_if_refused : Outcome → ℕ
one_if_refused (Accepted round added removed edges kept visits) = 0
one_if_refused (Refused line cause) = 1
one_if_refused Memory = 0

-- how many were accepted, and how many refused
abbrev pub accepted_count : List MadeEntry → ℕ
accepted_count [] = 0
accepted_count (e ∷ es) = one_if_accepted e.outcome + accepted_count es

abbrev pub refused_count : List MadeEntry → ℕ
refused_count [] = 0
refused_count (e ∷ es) = one_if_refused e.outcome + refused_count es

-- the numbers of the entries of a stream, in order
abbrev pub number_in : ℕ → MadeEntry → List ℕ
number_in stream e = if e.stream == stream then e.number ∷ [] else []

abbrev pub numbers_in : ℕ → List MadeEntry → List ℕ
numbers_in stream made = flat_map (number_in stream) made

-- ---- what is to hold of them
-- what becomes of a batch after some accepted ones
abbrev pub outcome_after : ProgramEntries → Graph → Choice → List (List Edit) → BatchText → Outcome
outcome_after p g c batches b =
    outcome_on p (vertices g) c (length batches + 1) (graph_after g batches) b

-- each entry is of a stream, and its outcome is what becomes of its batch after the accepted ones
-- before it
pub record IsMade (p : ProgramEntries) (g : Graph) (c : Choice) (files : List (List BatchText))
    (made : List MadeEntry) : Type 0 where
  pub known : (k : ℕ) (e : MadeEntry) → slice_get made k ≡ Some e → e.stream < length files
  pub replays : (k : ℕ) (e : MadeEntry) → slice_get made k ≡ Some e
      → e.outcome ≡ outcome_after p g c (accepted files (take k made)) (batch_of files e)

-- the entries of each stream are its first batches, in order, each once: as many as `next` says
abbrev pub HasTurns : List (List BatchText) → List ℕ → List MadeEntry → Type 0
HasTurns files next made = (stream : ℕ) → stream < length files
    → numbers_in stream made ≡ range_with_len 1 (slice_index_or next stream 0)

-- the entries of each stream are its batches, in order, each once
abbrev pub IsWhole : List (List BatchText) → List MadeEntry → Type 0
IsWhole files made = (stream : ℕ) → stream < length files
    → numbers_in stream made ≡ range_with_len 1 (length (file_of files stream))
