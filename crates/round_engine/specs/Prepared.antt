-- A batch that an engine has prepared.
use Rattle.std.specs.Prelude.{◌≡◌, IsSome}
use Rattle.std.specs.Option.{ForSome}
use Rattle.agg_history.specs.Puts.{laid_over}
use Rattle.adjacency.specs.ChangeOf.{IsChange}
use Rattle.bolt_base.specs.Edits.{after}
use Rattle.bolt_base.specs.Graph.{Graph}
use Rattle.run_model.specs.Logs.{answer_changes}
use Rattle.run_model.specs.Rows.{answer, rows_to}
use Rattle.run_model.specs.Visits.{visits}
use Rattle.round_engine.specs.EngineOf.{IsAnswerOf}
use Rattle.round_engine.specs.State.{EngineState}
use Rattle.round_engine.specs.declared.prepared.Prepared.{Prepared}

-- it leads an engine to a graph: its edits make it, its change is the net change to it, what it
-- puts over the rows makes those of that graph, its answer is the one there, and it tells what
-- changes in the answer and how many edges were read
pub record LeadsTo (s : EngineState) (h : Graph) (x : Prepared) : Type 0 where
  pub made : h ≡ after s.now x.edits
  pub net : IsChange s.now h x.change
  pub laid : laid_over x.overlay.vertices x.overlay.puts (rows_to s.program s.now s.choice.cut)
      ≡ rows_to s.program h s.choice.cut
  pub answered : IsAnswerOf s.program s.choice h x.answer
  pub told : x.changes ≡ answer_changes (answer s.program s.now) (answer s.program h)
  pub read : x.visits ≡ visits s.program s.now h s.choice.cut

-- this engine has prepared it
pub record IsPreparedBy (s : EngineState) (x : Prepared) : Type 0 where
  pub some : IsSome s.next
  pub leads : ForSome s.next (λ h. LeadsTo s h x)
