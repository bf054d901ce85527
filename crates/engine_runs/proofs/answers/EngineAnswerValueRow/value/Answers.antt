use Rattle.std.proofs.Common.{rules, ◌≡◌, ◌<◌, ◌+◌, ◌∙◌, ℕ, ℤ, FitsSigned, w64, sym, subst, length}
use Rattle.std.proofs.lemmas.Int.{to_z-of_z}
use Rattle.bolt_base.specs.Graph.{vertices}
use Rattle.refine_rows.proofs.ReadLemmas.{copied_list, value_long}
use Rattle.run_model.proofs.ByLane.{IsSoFar, one_more}
use Rattle.run_model.proofs.RowLemmas.{values_whole}
use Rattle.run_model.specs.Program.{number}
use Rattle.run_model.specs.Rows.{at, answer}
use Rattle.engine_runs.proofs.answers.EngineAnswerValueRow.value.Goals as goal

pub value-requires-clause-vertex : goal.value-requires-clause-vertex
value-requires-clause-vertex c =
    let s = c.args.self.now.engine.now in
    let whole = (values_whole s.program s.now s.program.rounds).each_vertex in
    subst (λ (n : ℕ). c.args.v < n) whole c.requires.vertex

pub loop-lane-preserved : goal.loop-lane-preserved
loop-lane-preserved c =
    let s = c.args.self.now.engine.now in
    let f : ℕ → ℤ = number (at (answer s.program s.now) c.args.v) in
    let fits : FitsSigned w64 c.value.result = search rules in
    subst (IsSoFar f _ (c.loop-lane.lane + 1)) (sym c.set.ensures)
    (one_more f _ c.loop-lane.lane c.loop-lane.value _ c.loop-lane.invariant
    c.loop-lane-test.true (to_z-of_z w64 c.value.result fits ∙ c.value.ensures))

pub returns : goal.returns
returns c =
    let s = c.args.self.now.engine.now in
    let whole = (values_whole s.program s.now s.program.rounds).each_vertex in
    let there : c.args.v < vertices s.now =
    subst (λ (n : ℕ). c.args.v < n) whole c.requires.vertex in
    let long : length (at (answer s.program s.now) c.args.v) ≡ c.len-lanes.result =
    search (rules, value_long s.program s.now s.program.rounds c.args.v there) in
    record {
      value = copied_list c.len-lanes.result c.loop-lane.lane c.loop-lane.value
          (at (answer s.program s.now) c.args.v) long c.loop-lane.invariant
          c.loop-lane-test.false;
    }
