-- The steps of the core.
use Rattle.std.specs.Prelude.{ℕ, ◌+◌, ◌%◌, ◌^◌, ◌==◌, Bool, false, ◌&&◌, if◌then◌else◌}
use Rattle.std.specs.Prelude.{nat_le, nat_lt, List, [], ◌∷◌, ◌++◌, length, map, replicate}
use Rattle.std.specs.Prelude.{slice_get, slice_set, take, Option, Some, None}
use Rattle.std.specs.List.{range_with_len}
use Rattle.bolt_base.specs.Edits.{after}
use Rattle.bolt_base.specs.Graph.{Graph, vertices, within}
use Rattle.bolt_base.specs.Keep.{Entry, Row, column}
use Rattle.bolt_base.specs.Keep as base
use Rattle.bolt_base.specs.Residue.{Amount}
use Rattle.bolt_base.specs.declared.edge.Edit.{Edit}
use Rattle.run_model.specs.Kept.{stored}
use Rattle.run_model.specs.Logs.{Round, shown, answer_changes}
use Rattle.run_model.specs.Refined.{row_values}
use Rattle.run_model.specs.Rows.{Lists, answer}
use Rattle.graph_text.specs.Outcome.{outcome}
use Rattle.graph_text.specs.declared.bad_line.BadLine.{BadLine}
use Rattle.graph_text.specs.declared.batch_text.BatchText.{BatchText}
use Rattle.round_journal.specs.Book.{Book, accepted_count, pending, with_entry}
use Rattle.round_journal.specs.Replays.{outcome_on}
use Rattle.round_journal.specs.declared.entry.Entered.{Entered}
use Rattle.round_journal.specs.declared.journal.TheConstants.{MOST_PENDING, MOST_ORIGINS}
use Rattle.round_journal.specs.declared.outcome.Outcome.{Outcome}
use Rattle.board.specs.Queries.{means}
use Rattle.board.specs.declared.desk.Reply.{Reply}
use Rattle.board.specs.declared.query.Query.{Query}
use Rattle.core_model.specs.Iterations.{all_left, first_work, settled, word_in}
use Rattle.core_model.specs.State.{Given, Work, Progress, State}
use Rattle.core_model.specs.declared.step.Step.{Step}
use Rattle.core_model.specs.declared.step.Step.TheVariants.{Submit, Take, Add, Settle, Decide}
use Rattle.core_model.specs.declared.step.Step.TheVariants.{Publish, Ask, Learn}
use Rattle.core_model.specs.declared.step.Effect.{Effect}
use Rattle.core_model.specs.declared.step.Effect.TheVariants.{Ticket, Full, Done, Decided, Answered}
use Rattle.core_model.specs.declared.step.Effect.TheVariants.{Nothing}

-- ---- the beginning
-- what is kept of each vertex of a graph
abbrev pub stored_of : Given → Graph → List (List Entry)
stored_of c g =
    map (stored c.choice.vertical c.program g c.choice.cut) (range_with_len 0 (vertices g))

-- the opened graph, with an empty journal of open origins, nothing published, and this many desks
abbrev pub start : Given → ℕ → State
start c desks = record {
  graph = c.opened;
  stored = stored_of c c.opened;
  answer = answer c.program c.opened;
  journal = record { entries = []; decided = 0; closed = replicate MOST_ORIGINS false };
  log = [];
  published = 0;
  seen = replicate desks 0;
  progress = None;
  awaiting = None;
}

-- ---- Submit
-- a batch with one edit on each line, from line 1
abbrev pub batch_of : List Edit → BatchText
batch_of edits = record {
  first_line = 1;
  edits = edits;
  lines = range_with_len 1 (length edits);
  bad = None;
}

abbrev pub submit : State → ℕ → List Edit → State × Effect
submit s origin edits =
    if pending s.journal == MOST_PENDING then (s, Full)
    else (
      record s { journal = with_entry s.journal origin (batch_of edits) },
      Ticket (length s.journal.entries + 1),
    )

-- ---- Take
-- why a batch is refused on a graph, or none
abbrev pub refused_on : Given → Graph → BatchText → Option BadLine
refused_on c g batch = outcome (within c.program.limits (vertices c.opened)) g batch

abbrev pub work_if : Option BadLine → Work → Option Work
work_if None work = Some work
work_if (Some bad) work = None

-- a round begins for an entry
abbrev pub taken : Given → Graph → Entered → Progress
taken c g e = record {
  entry = e;
  work = work_if (refused_on c g e.batch) (first_work c g (after g e.batch.edits));
}

-- the lowest undecided entry
abbrev pub next_entry : Book → Option Entered
next_entry j = slice_get j.entries j.decided

abbrev pub take_next : Given → State → Option Progress → Option Round → Option Entered
    → State × Effect
take_next c s None None (Some e) = (record s { progress = Some (taken c s.graph e) }, Done)
take_next c s _ _ _ = (s, Nothing)

-- ---- Add and Settle
-- the round's work has come so far
abbrev pub with_work : State → Progress → Work → State
with_work s r w = record s { progress = Some (record r { work = Some w }) }

-- an amount is added to its word, modulo 2^64
abbrev pub added_to : List ℕ → Amount → List ℕ
added_to words a = slice_set words a.word ((word_in words a.word + a.amount) % 2 ^ 64)

abbrev pub add_first : State → Progress → Work → ℕ → Option (List Amount) → State × Effect
add_first s r w k (Some (a ∷ rest)) =
    (with_work s r (record w { words = added_to w.words a; left = slice_set w.left k rest }), Done)
add_first s r w k _ = (s, Nothing)

abbrev pub add_in : State → Progress → Option Work → ℕ → State × Effect
add_in s r None k = (s, Nothing)
add_in s r (Some w) k = add_first s r w k (slice_get w.left k)

abbrev pub add : State → Option Progress → ℕ → State × Effect
add s None k = (s, Nothing)
add s (Some r) k = add_in s r r.work k

-- an iteration remains, and none of its additions
abbrev pub may_settle : Given → Work → Bool
may_settle c w = nat_le w.iteration c.program.rounds && (length (all_left w.left) == 0)

abbrev pub settle_in : Given → State → Progress → Option Work → State × Effect
settle_in c s r None = (s, Nothing)
settle_in c s r (Some w) =
    if may_settle c w then (with_work s r (settled c s.graph s.stored w), Done) else (s, Nothing)

abbrev pub settle : Given → State → Option Progress → State × Effect
settle c s None = (s, Nothing)
settle c s (Some r) = settle_in c s r r.work

-- ---- Decide
-- what becomes of a batch
abbrev pub outcome_now : Given → State → BatchText → Outcome
outcome_now c s batch =
    outcome_on c.program (vertices c.opened) c.choice (accepted_count s.journal.entries + 1) s.graph
    batch

-- the lowest undecided entry has this outcome
abbrev pub with_outcome : Book → Entered → Outcome → Book
with_outcome j e o = record j {
  decided = j.decided + 1;
  entries = slice_set j.entries j.decided (record e { outcome = Some o });
}

-- the round has ended
abbrev pub ended : Given → State → Entered → State
ended c s e = record s {
  journal = with_outcome s.journal e (outcome_now c s e.batch);
  progress = None;
}

-- what is kept of each vertex in rows up to the cut
abbrev pub stored_in : Given → ℕ → List Row → List (List Entry)
stored_in c n rows =
    map (λ v. base.stored c.choice.vertical (column rows v)) (range_with_len 0 n)

-- the values of the last row
abbrev pub answer_in : Given → Work → Lists
answer_in c w = row_values (vertices w.graph) w.rows c.program.rounds

-- and it was accepted: its rows are kept up to the cut, and what it changes awaits publication
abbrev pub accepted : Given → State → Entered → Work → State
accepted c s e w = record (ended c s e) {
  graph = w.graph;
  stored = stored_in c (vertices w.graph) (take (c.choice.cut + 1) w.rows);
  answer = answer_in c w;
  awaiting = Some (record {
    edits = e.batch.edits;
    changes = answer_changes s.answer (answer_in c w);
  });
}

abbrev pub decide_in : Given → State → Entered → Option Work → State × Effect
decide_in c s e None = (ended c s e, Decided (outcome_now c s e.batch))
decide_in c s e (Some w) =
    if nat_lt c.program.rounds w.iteration
    then (accepted c s e w, Decided (outcome_now c s e.batch))
    else (s, Nothing)

abbrev pub decide : Given → State → Option Progress → State × Effect
decide c s None = (s, Nothing)
decide c s (Some r) = decide_in c s r.entry r.work

-- ---- Publish, Ask and Learn
abbrev pub publish : State → Option Round → State × Effect
publish s None = (s, Nothing)
publish s (Some r) =
    (record s { log = s.log ++ r ∷ []; published = s.published + 1; awaiting = None }, Done)

-- a desk has seen what is published
abbrev pub seen_by : State → ℕ → State
seen_by s desk = record s { seen = slice_set s.seen desk s.published }

-- what a query means on the published answer
abbrev pub reply : Given → State → Query → Reply
reply c s query = record {
  prefix = s.published;
  body = means query (shown (answer c.program c.opened) s.log s.published);
}

-- ---- steps
-- what a step makes of a state, and its effect
abbrev pub step : Given → State → Step → State × Effect
step c s (Submit origin edits) = submit s origin edits
step c s Take = take_next c s s.progress s.awaiting (next_entry s.journal)
step c s (Add piece) = add s s.progress piece
step c s Settle = settle c s s.progress
step c s Decide = decide c s s.progress
step c s Publish = publish s s.awaiting
step c s (Ask desk query) = (seen_by s desk, Answered (reply c s query))
step c s (Learn desk) = (seen_by s desk, Done)

-- many steps, in order
abbrev pub core_run : Given → State → List Step → State × List Effect
core_run c s [] = (s, [])
core_run c s (k ∷ ks) =
    let r = step c s k in
    let rest = core_run c r.0 ks in
    (rest.0, r.1 ∷ rest.1)
