-- What a run of a program writes: the answer of its graph, and what becomes of each batch. All rows
-- are computed anew on each graph.
use Rattle.std.specs.Prelude.{ℕ, ◌+◌, ◌==◌, Bool, List, [], ◌++◌, length, Option, Some, None}
use Rattle.std.specs.Prelude.{if◌then◌else◌}
use Rattle.bolt_base.specs.Change.{added, removed}
use Rattle.bolt_base.specs.Edits.{after}
use Rattle.bolt_base.specs.Graph.{Graph, vertices, edges, within}
use Rattle.bolt_base.specs.declared.answer.Choice.{Choice}
use Rattle.bolt_base.specs.declared.limits.Limits.{Limits}
use Rattle.vertex_expr.specs.declared.program.ProgramEntries.{ProgramEntries}
use Rattle.graph_text.specs.Outcome.{outcome}
use Rattle.graph_text.specs.declared.bad_line.BadLine.{BadLine}
use Rattle.graph_text.specs.declared.batch_text.BatchText.{BatchText}
use Rattle.run_model.specs.Kept.{kept}
use Rattle.run_model.specs.Logs.{answer_changes}
use Rattle.run_model.specs.Program.{lanes}
use Rattle.run_model.specs.Rows.{answer}
use Rattle.run_model.specs.Visits.{visits, opening_visits}
use Rattle.batch_steps.specs.Steps.{Steps}
use Rattle.batch_steps.specs.declared.reply.Reply.{Reply}
use Rattle.report_text.specs.Lines.{open_line, accepted_line, end_line, once_line}
use Rattle.report_text.specs.Refusals.{refused_line}
use Rattle.report_text.specs.Values.{value_lines, set_lines, total_lines}

-- a run between two batches: the program, how it is run, whether values are shown, how many
-- vertices its graph had at the opening, its graph now, and how many batches were accepted and
-- refused so far
pub record Run : Type 0 where
  pub program : ProgramEntries
  pub choice : Choice
  pub shows : Bool
  pub began : ℕ
  pub graph : Graph
  pub accepted : ℕ
  pub refused : ℕ

-- an opened graph
abbrev pub opened : ProgramEntries → Choice → Bool → Graph → Run
opened p choice shows g = record {
  program = p;
  choice = choice;
  shows = shows;
  began = vertices g;
  graph = g;
  accepted = 0;
  refused = 0;
}

-- lines of values stand only where values are shown
abbrev pub if_shown : Bool → List ℕ → List ℕ
if_shown shows lines = if shows then lines else []

-- the entries that are kept of a graph
abbrev pub kept_on : Run → Graph → ℕ
kept_on r g = kept r.choice.vertical r.program g r.choice.cut

-- the opening
abbrev pub open_text : Run → List ℕ
open_text r =
    open_line (vertices r.graph) (length (edges r.graph)) (kept_on r r.graph)
    (opening_visits r.program r.graph)
    ++ if_shown r.shows (value_lines (answer r.program r.graph))

-- ---- batches
-- the number of the next batch; refused ones are counted too
abbrev pub next_number : Run → ℕ
next_number r = r.accepted + r.refused + 1

-- what batches are judged by: the graph may grow to the room of its opening
abbrev pub batch_limits : Run → Limits
batch_limits r = within r.program.limits r.began

-- the line and the cause for which a batch is refused, if it is
abbrev pub outcome_of : Run → BatchText → Option BadLine
outcome_of r b = outcome (batch_limits r) r.graph b

-- an accepted batch, which leads to the graph h
abbrev pub accepted_text : Run → Graph → List ℕ
accepted_text r h =
    accepted_line (next_number r) (length (added r.graph h)) (length (removed r.graph h))
    (length (edges h)) (kept_on r h) (visits r.program r.graph h r.choice.cut)
    ++ if_shown r.shows
    (set_lines (answer_changes (answer r.program r.graph) (answer r.program h)))

abbrev pub batch_text_by : Run → BatchText → Option BadLine → List ℕ
batch_text_by r b None = accepted_text r (after r.graph b.edits)
batch_text_by r b (Some bad) = refused_line (next_number r) bad

abbrev pub batch_text : Run → BatchText → List ℕ
batch_text r b = batch_text_by r b (outcome_of r b)

-- an accepted batch moves the graph, and a refused one leaves it
abbrev pub moved_by : Run → BatchText → Option BadLine → Run
moved_by r b None = record r { graph = after r.graph b.edits; accepted = r.accepted + 1 }
moved_by r b (Some bad) = record r { refused = r.refused + 1 }

abbrev pub moved : Run → BatchText → Run
moved r b = moved_by r b (outcome_of r b)

-- ---- the end
abbrev pub end_text : Run → List ℕ
end_text r =
    total_lines (lanes r.program) (answer r.program r.graph) ++ end_line r.accepted r.refused

-- 1 where a batch was refused, and else 0
abbrev pub end_status : Run → ℕ
end_status r = if r.refused == 0 then 0 else 1

abbrev pub end_reply : Run → Reply
end_reply r = record { text = end_text r; status = end_status r }

-- a run, step by step
abbrev pub run_steps : Steps Run
run_steps = record { text = batch_text; next = moved; end = end_reply }

-- ---- a program that is run once on a graph
abbrev pub once_text : ProgramEntries → Bool → Graph → List ℕ
once_text p shows g =
    once_line (vertices g) (length (edges g)) (opening_visits p g)
    ++ if_shown shows (value_lines (answer p g)) ++ total_lines (lanes p) (answer p g)
