use Rattle.std.proofs.Common.{◌≡◌, ◌+◌, ◌-◌, ◌*◌, ◌≤◌, ℕ, length, ap, ◌∙◌, arith}
use Rattle.bolt_base.specs.Graph.{Graph, edges}
use Rattle.vertex_expr.specs.declared.program.ProgramEntries.{ProgramEntries}
use Rattle.run_model.specs.Rows.{row}
use Rattle.run_model.proofs.Runs.{next_row}
use Rattle.sync_engine.proofs.Counts.{more_rounds}
use Rattle.vertex_steps.proofs.Rounds.{before_at}
use Rattle.sync_engine.proofs.run.last_values.Goals as goal

pub iterate-requires-clause-before : goal.iterate-requires-clause-before
iterate-requires-clause-before g c κs within =
    let p : ProgramEntries = c.args.program.now in
    let h : Graph = g.A.Adjacency.plain c.args.graph.now in
    let i : ℕ = c.loop-i.i in
    let read : c.deref.result.now ≡ row p h i = c.deref.ensures.value ∙ c.loop-i.invariant.vals in
    before_at p h i c.deref.result.now read c.requires.safe c.requires.good

pub loop-i-preserved : goal.loop-i-preserved
loop-i-preserved g c =
    let p : ProgramEntries = c.args.program.now in
    let h : Graph = g.A.Adjacency.plain c.args.graph.now in
    let i : ℕ = c.loop-i.i in
    let read : c.deref.result.now ≡ row p h i = c.deref.ensures.value ∙ c.loop-i.invariant.vals in
    let low : c.args.cut ≤ i = omega arith in
    let step : (i + 1) - c.args.cut ≡ (i - c.args.cut) + 1 = omega arith in
    let more = ap (λ n. n * length (edges h)) step
    ∙ more_rounds (i - c.args.cut) (length (edges h)) in
    let was = c.loop-i.invariant.count in
    let now = c.in_ok-next.ensures.exact in
    record {
      vals = next_row p h i c.deref.result.now read c.in_ok-next.next.vals.items
          c.in_ok-next.ensures.vals;
      count = omega arith;
      units = c.iterate.ensures.units ∙ c.loop-i.invariant.units;
    }
