-- What an engine makes of a batch.
use Rattle.std.specs.Prelude.{◌≡◌, ◌+◌, List, Option, None, length}
use Rattle.bolt_base.specs.Change.{added, removed}
use Rattle.bolt_base.specs.Edits.{after}
use Rattle.bolt_base.specs.Graph.{Graph, edges, within}
use Rattle.bolt_base.specs.declared.edge.Edit.{Edit}
use Rattle.graph_text.specs.Outcome.{first_refused, outcome}
use Rattle.graph_text.specs.declared.bad_line.BadLine.{BadLine}
use Rattle.graph_text.specs.declared.batch_text.BatchText.{BatchText}
use Rattle.run_model.specs.Kept.{kept}
use Rattle.run_model.specs.Logs.{answer_changes}
use Rattle.run_model.specs.Rows.{answer}
use Rattle.run_model.specs.Visits.{visits}
use Rattle.round_engine.specs.Preparing.{first_bad}
use Rattle.round_engine.specs.State.{EngineState}
use Rattle.round_engine.specs.declared.round.Round.{Round}

-- the line and the cause of the batch's first bad edit, if it has one
abbrev pub bad_edit : EngineState → BatchText → Option BadLine
bad_edit s b = first_refused (first_bad s b.edits) b.lines None

-- the line and the cause for which the batch is refused, if it is
abbrev pub judged : EngineState → BatchText → Option BadLine
judged s b = outcome (within s.program.limits s.opened) s.now b

-- the state after an accepted batch
abbrev pub committed : EngineState → List Edit → EngineState
committed s edits = record s { now = after s.now edits; number = s.number + 1 }

-- the numbers of a batch that led to this graph
pub record IsRound (s : EngineState) (h : Graph) (round : Round) : Type 0 where
  pub net_added : round.added ≡ length (added s.now h)
  pub net_removed : round.removed ≡ length (removed s.now h)
  pub all_edges : round.edges ≡ length (edges h)
  pub all_kept : round.kept ≡ kept s.choice.vertical s.program h s.choice.cut
  pub all_read : round.visits ≡ visits s.program s.now h s.choice.cut
  pub all_changes : round.changes ≡ answer_changes (answer s.program s.now) (answer s.program h)
