-- What a batch makes of an engine, what it costs, and why it isn't prepared.
use Rattle.std.specs.Prelude.{◌≡◌, ℕ, List, Option, Some, None}
use Rattle.bolt_base.specs.Edits.{after, bad}
use Rattle.bolt_base.specs.Graph.{within}
use Rattle.bolt_base.specs.declared.edge.Edit.{Edit}
use Rattle.bolt_base.specs.declared.limits.LineCause.{LineCause}
use Rattle.run_model.specs.Visits.{visits}
use Rattle.round_engine.specs.State.{EngineState}
use Rattle.round_engine.specs.declared.prepare.BatchRefusal.{BatchRefusal}
use Rattle.round_engine.specs.declared.prepare.BatchRefusal.TheVariants.{At, Memory}

-- the first bad edit of a batch, with its cause: under the program's limits, and for as many
-- vertices as the opened graph may come to have
abbrev pub first_bad : EngineState → List Edit → Option (ℕ × LineCause)
first_bad s edits = bad (within s.program.limits s.opened) s.now edits

-- the edges that are read to refine the rows and the answer from the graph now to the one after
-- the edits
abbrev pub batch_visits : EngineState → List Edit → ℕ
batch_visits s edits = visits s.program s.now (after s.now edits) s.choice.cut

-- a batch with a bad edit reads none
abbrev pub visits_unless : Option (ℕ × LineCause) → ℕ → ℕ
visits_unless None most = most
visits_unless (Some at) most = 0

abbrev pub most_visits : EngineState → List Edit → ℕ
most_visits s edits = visits_unless (first_bad s edits) (batch_visits s edits)

-- the batch is prepared: reads are as before, and a commit would leave the graph after the edits
abbrev pub prepared_state : EngineState → List Edit → EngineState
prepared_state s edits = record s { next = Some (after s.now edits) }

-- the first bad edit with its cause, where there is one
abbrev pub IsBatchRefusal : EngineState → List Edit → BatchRefusal → Type 0
IsBatchRefusal s edits (At index cause) = first_bad s edits ≡ Some (index, cause)
IsBatchRefusal s edits Memory = Unit {0}
