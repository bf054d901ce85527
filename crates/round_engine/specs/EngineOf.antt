-- An engine's parts, and what they stand for.
use Rattle.std.specs.Prelude.{◌≡◌, ℕ, ◌*◌, ◌≤◌, Option, Some, None, length}
use Rattle.bolt_base.specs.Graph.{Graph, IsGood, edges, room, within}
use Rattle.bolt_base.specs.declared.answer.Choice.{Choice}
use Rattle.vertex_expr.specs.declared.program.ProgramEntries.{ProgramEntries}
use Rattle.range_check.specs.Breaks.{IsAccepted}
use Rattle.run_model.specs.Program.{lanes}
use Rattle.run_model.specs.Rows.{Lists, answer, rows_to}
use Rattle.agg_words.specs.Known.{IsClear}
use Rattle.agg_words.specs.declared.layout.Layout.{Layout}
use Rattle.agg_history.specs.Pruned.{HistoryState, pruned, rows_of}
use Rattle.adjacency.specs.State.{State}
use Rattle.round_engine.specs.State.{EngineState}
use Rattle.round_engine.specs.declared.engine.Engine.TheInside.{Inside}

-- while a change is out, reads are of the graph before it
abbrev pub graph_read : Graph → Option Graph → Graph
graph_read now None = now
graph_read now (Some old) = old

-- and a commit would leave the graph after it
abbrev pub graph_next : Graph → Option Graph → Option Graph
graph_next now None = None
graph_next now (Some old) = Some now

abbrev pub read_of : State → Graph
read_of s = graph_read s.now s.before

abbrev pub next_of : State → Option Graph
next_of s = graph_next s.now s.before

abbrev pub engine_of : Inside → EngineState
engine_of e = record {
  program = e.accepted;
  opened = e.opened;
  choice = e.choice;
  now = read_of e.graph;
  next = next_of e.graph;
  number = e.graph.version;
}

-- a program can be run so: it keeps iteration 1 at least and its last one at most, with 1 to 64
-- workers
pub record IsChoice (p : ProgramEntries) (choice : Choice) : Type 0 where
  pub some : 1 ≤ choice.cut
  pub most : choice.cut ≤ p.rounds
  pub worker : 1 ≤ choice.workers
  pub few : choice.workers ≤ 64

-- the history of a run on a graph: its rows are the rows from iteration 0 to the cut
pub record IsHistoryOf (p : ProgramEntries) (choice : Choice) (g : Graph) (h : HistoryState)
    : Type 0 where
  pub as_chosen : h.vertical ≡ choice.vertical
  pub upto : h.cut ≡ choice.cut
  pub wide : h.lanes ≡ lanes p
  pub rows : rows_of h ≡ rows_to p g choice.cut

-- where a batch is prepared, a commit makes it the history of a run on the next graph
abbrev pub IsNextOf : ProgramEntries → Choice → Option Graph → HistoryState → Type 0
IsNextOf p choice None h = Unit {0}
IsNextOf p choice (Some g) h = h.next ≡ Some (pruned choice.vertical (rows_to p g choice.cut))

-- the answer on a graph is kept where it isn't the last kept row
abbrev pub IsAnswerOf : ProgramEntries → Choice → Graph → Option Lists → Type 0
IsAnswerOf p choice g None = choice.cut ≡ p.rounds
IsAnswerOf p choice g (Some values) = values ≡ answer p g

-- a table has a word for each lane of so many vertices, a bit for each of them, and a unit for each
-- worker
pub record IsLaidOut (p : ProgramEntries) (choice : Choice) (most : ℕ) (k : Layout) : Type 0 where
  pub aggregate_words : k.words ≡ most * lanes p
  pub mark_bits : k.bits ≡ most
  pub a_unit_each : k.units ≡ choice.workers

-- all parts are those of the graph that is read, and of the next one
pub record IsEngine (e : Inside) : Type 0 where
  pub safe : IsAccepted e.accepted
  pub chosen : IsChoice e.accepted e.choice
  pub bounded : e.graph.limits ≡ within e.accepted.limits e.opened
  pub fine : IsGood (within e.accepted.limits e.opened) (read_of e.graph)
  pub counted : e.edges ≡ length (edges (read_of e.graph))
  pub kept_now : IsHistoryOf e.accepted e.choice (read_of e.graph) e.history
  pub kept_next : IsNextOf e.accepted e.choice (next_of e.graph) e.history
  pub answered : IsAnswerOf e.accepted e.choice (read_of e.graph) e.answer
  pub laid_out : IsLaidOut e.accepted e.choice (room e.accepted.limits e.opened) e.words.layout
  pub seated : e.seat.table ≡ e.words.table
  pub clear : IsClear e.words.layout e.seat.view
