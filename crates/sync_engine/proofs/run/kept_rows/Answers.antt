use Rattle.std.proofs.Common.{◌≡◌, ◌+◌, ℕ, length, sym, ap, ◌∙◌, arith}
use Rattle.bolt_base.specs.Graph.{Graph, edges}
use Rattle.bolt_base.specs.RowTable.{RowTable}
use Rattle.vertex_expr.specs.declared.program.ProgramEntries.{ProgramEntries}
use Rattle.run_model.specs.Rows.{row, aggr}
use Rattle.run_model.proofs.Runs.{vals_long, vals_lanes, next_row, next_aggr, aggs_long, aggs_lanes}
use Rattle.run_model.proofs.Runs.{table_next, length-rows_to}
use Rattle.sync_engine.proofs.Counts.{more_rounds}
use Rattle.vertex_steps.proofs.Rounds.{before_at}
use Rattle.sync_engine.proofs.run.kept_rows.Goals as goal

pub iterate-requires-clause-before : goal.iterate-requires-clause-before
iterate-requires-clause-before g c κs within =
    let p : ProgramEntries = c.args.program.now in
    let h : Graph = g.A.Adjacency.plain c.args.graph.now in
    let i : ℕ = c.loop-i.i in
    let read : c.deref.result.now ≡ row p h i = c.deref.ensures.value ∙ c.loop-i.invariant.vals in
    before_at p h i c.deref.result.now read c.requires.safe c.requires.good

pub add_row-requires-clause-few : goal.add_row-requires-clause-few
add_row-requires-clause-few g c =
    let p : ProgramEntries = c.args.program.now in
    let h : Graph = g.A.Adjacency.plain c.args.graph.now in
    let n = ap (λ (t : RowTable). length t.rows) c.loop-i.invariant.rows
    ∙ length-rows_to p h c.loop-i.i in
    let most = c.requires.safe.writable.rounds.most in
    let cut = c.requires.cut in
    let test = c.loop-i-test.true in
    omega arith

pub add_row-requires-clause-aggs : goal.add_row-requires-clause-aggs
add_row-requires-clause-aggs g c =
    let p : ProgramEntries = c.args.program.now in
    let h : Graph = g.A.Adjacency.plain c.args.graph.now in
    let i : ℕ = c.loop-i.i in
    let read : c.deref.result.now ≡ row p h i = c.deref.ensures.value ∙ c.loop-i.invariant.vals in
    let aggs : c.deref-in-loop-i.result.now ≡ aggr p h (i + 1) = c.deref-in-loop-i.ensures.value
    ∙ next_aggr p h i c.deref.result.now read c.in_ok-next.next.aggs.items
    c.in_ok-next.ensures.aggs in
    aggs_long p h (i + 1) c.deref-in-loop-i.result.now aggs
    ∙ sym (ap (λ (t : RowTable). t.vertices) c.loop-i.invariant.rows)

pub add_row-requires-clause-vals : goal.add_row-requires-clause-vals
add_row-requires-clause-vals g c =
    let p : ProgramEntries = c.args.program.now in
    let h : Graph = g.A.Adjacency.plain c.args.graph.now in
    let i : ℕ = c.loop-i.i in
    let read : c.deref.result.now ≡ row p h i = c.deref.ensures.value ∙ c.loop-i.invariant.vals in
    let vals : c.deref-in-loop-i-2.result.now ≡ row p h (i + 1) = c.deref-in-loop-i-2.ensures.value
    ∙ next_row p h i c.deref.result.now read c.in_ok-next.next.vals.items
    c.in_ok-next.ensures.vals in
    vals_long p h (i + 1) c.deref-in-loop-i-2.result.now vals
    ∙ sym (ap (λ (t : RowTable). t.vertices) c.loop-i.invariant.rows)

pub add_row-requires-clause-agg_lanes : goal.add_row-requires-clause-agg_lanes
add_row-requires-clause-agg_lanes g c =
    let p : ProgramEntries = c.args.program.now in
    let h : Graph = g.A.Adjacency.plain c.args.graph.now in
    let i : ℕ = c.loop-i.i in
    let read : c.deref.result.now ≡ row p h i = c.deref.ensures.value ∙ c.loop-i.invariant.vals in
    let aggs : c.deref-in-loop-i.result.now ≡ aggr p h (i + 1) = c.deref-in-loop-i.ensures.value
    ∙ next_aggr p h i c.deref.result.now read c.in_ok-next.next.aggs.items
    c.in_ok-next.ensures.aggs in
    λ k d small. aggs_lanes p h (i + 1) c.deref-in-loop-i.result.now aggs k d small
    ∙ sym (ap (λ (t : RowTable). t.lanes) c.loop-i.invariant.rows)

pub add_row-requires-clause-val_lanes : goal.add_row-requires-clause-val_lanes
add_row-requires-clause-val_lanes g c =
    let p : ProgramEntries = c.args.program.now in
    let h : Graph = g.A.Adjacency.plain c.args.graph.now in
    let i : ℕ = c.loop-i.i in
    let read : c.deref.result.now ≡ row p h i = c.deref.ensures.value ∙ c.loop-i.invariant.vals in
    let vals : c.deref-in-loop-i-2.result.now ≡ row p h (i + 1) = c.deref-in-loop-i-2.ensures.value
    ∙ next_row p h i c.deref.result.now read c.in_ok-next.next.vals.items
    c.in_ok-next.ensures.vals in
    λ k d small. vals_lanes p h (i + 1) c.deref-in-loop-i-2.result.now vals k d small
    ∙ sym (ap (λ (t : RowTable). t.lanes) c.loop-i.invariant.rows)

pub loop-i-preserved : goal.loop-i-preserved
loop-i-preserved g c =
    let p : ProgramEntries = c.args.program.now in
    let h : Graph = g.A.Adjacency.plain c.args.graph.now in
    let i : ℕ = c.loop-i.i in
    let read : c.deref.result.now ≡ row p h i = c.deref.ensures.value ∙ c.loop-i.invariant.vals in
    let aggs : c.deref-in-loop-i.result.now ≡ aggr p h (i + 1) = c.deref-in-loop-i.ensures.value
    ∙ next_aggr p h i c.deref.result.now read c.in_ok-next.next.aggs.items
    c.in_ok-next.ensures.aggs in
    let vals : c.deref-in-loop-i-2.result.now ≡ row p h (i + 1) = c.deref-in-loop-i-2.ensures.value
    ∙ next_row p h i c.deref.result.now read c.in_ok-next.next.vals.items
    c.in_ok-next.ensures.vals in
    let more = more_rounds i (length (edges h)) in
    let was = c.loop-i.invariant.count in
    let now = c.in_ok-next.ensures.exact in
    record {
      vals = next_row p h i c.deref.result.now read c.in_ok-next.next.vals.items
          c.in_ok-next.ensures.vals;
      rows = table_next p h i c.loop-i.rows c.add_row.new.self c.deref-in-loop-i.result.now
          c.deref-in-loop-i-2.result.now c.loop-i.invariant.rows c.in_ok-add_row.ensures.ok aggs
          vals;
      count = omega arith;
      units = c.iterate.ensures.units ∙ c.loop-i.invariant.units;
    }
