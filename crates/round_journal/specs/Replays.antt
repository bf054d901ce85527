-- What a journal's outcomes are to be.
use Rattle.std.specs.Prelude.{◌≡◌, ℕ, ◌+◌, ◌⊎◌, List, [], length, slice_get, take, Option, Some}
use Rattle.std.specs.Prelude.{None}
use Rattle.std.specs.List.{flat_map}
use Rattle.bolt_base.specs.Change.{removed, added}
use Rattle.bolt_base.specs.Edits.{after}
use Rattle.bolt_base.specs.Graph.{Graph, vertices, edges, within}
use Rattle.bolt_base.specs.declared.answer.Choice.{Choice}
use Rattle.bolt_base.specs.declared.edge.Edit.{Edit}
use Rattle.vertex_expr.specs.declared.program.ProgramEntries.{ProgramEntries}
use Rattle.run_model.specs.Kept.{kept}
use Rattle.run_model.specs.Visits.{visits}
use Rattle.graph_text.specs.Outcome.{outcome}
use Rattle.graph_text.specs.declared.bad_line.BadLine.{BadLine}
use Rattle.graph_text.specs.declared.batch_text.BatchText.{BatchText}
use Rattle.round_journal.specs.declared.entry.Entered.{Entered}
use Rattle.round_journal.specs.declared.outcome.Outcome.{Outcome}
use Rattle.round_journal.specs.declared.outcome.Outcome.TheVariants.{Accepted, Refused, Memory}
use Rattle.round_journal.specs.Book.{accepted_count}

-- what an entry does to the graph: only an accepted one has edits
abbrev pub edits_if_accepted : Option Outcome → List Edit → List Edit
edits_if_accepted (Some (Accepted round added removed edges kept visits)) edits = edits
edits_if_accepted _ edits = []

-- the edits of the accepted entries, in order
abbrev pub accepted_edits : List Entered → List Edit
accepted_edits es = flat_map (λ e. edits_if_accepted e.outcome e.batch.edits) es

-- the round that leads from a graph to another one, with its numbers
abbrev pub accepted : ProgramEntries → Choice → ℕ → Graph → Graph → Outcome
accepted p c round g h =
    Accepted round (length (added g h)) (length (removed g h)) (length (edges h))
    (kept c.vertical p h c.cut) (visits p g h c.cut)

-- refused for a bad line, or accepted
abbrev pub judged : Option BadLine → Outcome → Outcome
judged None accepted = accepted
judged (Some bad) accepted = Refused bad.line bad.cause

-- what becomes of a batch on a graph, of which n vertices were there at first
abbrev pub outcome_on : ProgramEntries → ℕ → Choice → ℕ → Graph → BatchText → Outcome
outcome_on p n c round g batch =
    judged (outcome (within p.limits n) g batch) (accepted p c round g (after g batch.edits))

-- what becomes of a batch after these entries, the first of them on the opened graph
abbrev pub outcome_after : ProgramEntries → Graph → Choice → List Entered → BatchText → Outcome
outcome_after p g c before batch =
    outcome_on p (vertices g) c (accepted_count before + 1) (after g (accepted_edits before)) batch

-- each decided outcome is Memory, or what becomes of its batch after the entries before it
abbrev pub Replays : ProgramEntries → Graph → Choice → List Entered → Type 0
Replays p g c es = (k : ℕ) (e : Entered) (o : Outcome) → slice_get es k ≡ Some e
    → e.outcome ≡ Some o → (o ≡ Memory) ⊎ (o ≡ outcome_after p g c (take k es) e.batch)
