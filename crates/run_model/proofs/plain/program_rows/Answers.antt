use Rattle.std.proofs.Common.{rules, ◌≡◌, ◌+◌, ℕ, pos, [], length, replicate, sym, ap, ◌∙◌, arith}
use Rattle.bolt_base.specs.Graph.{Graph, vertices}
use Rattle.bolt_base.specs.RowTable.{RowTable}
use Rattle.vertex_expr.specs.declared.program.ProgramEntries.{ProgramEntries}
use Rattle.run_model.specs.Program.{lanes, zeros}
use Rattle.run_model.proofs.Runs.{no_aggr, vals_long, vals_lanes, vals_ranged, next_row, next_aggr}
use Rattle.run_model.proofs.Runs.{aggs_long, aggs_lanes, table_first, table_next, length-rows_to}
use Rattle.run_model.proofs.plain.program_rows.Goals as goal

pub add_row-requires-clause-vals : goal.add_row-requires-clause-vals
add_row-requires-clause-vals c =
    vals_long c.args.program.now c.args.graph.now 0 c.deref-2.result.now
    (c.deref-2.ensures.value ∙ c.in_ok-vals.ensures.values)
    ∙ sym (ap length c.attrs.ensures.attrs)
    ∙ sym (ap (λ (t : RowTable). t.vertices) c.new-rows.ensures)

pub add_row-requires-clause-val_lanes : goal.add_row-requires-clause-val_lanes
add_row-requires-clause-val_lanes c = λ k d small.
    vals_lanes c.args.program.now c.args.graph.now 0 c.deref-2.result.now
    (c.deref-2.ensures.value ∙ c.in_ok-vals.ensures.values) k d small
    ∙ sym (c.len-lanes.ensures ∙ ap (λ (x : ProgramEntries). length x.ranges)
    c.entries-entries.ensures.entries) ∙ sym (ap (λ (t : RowTable). t.lanes) c.new-rows.ensures)

pub loop-round-init : goal.loop-round-init
loop-round-init c =
    let p : ProgramEntries = c.args.program.now in
    let g : Graph = c.args.graph.now in
    let len : c.len-lanes.result ≡ lanes p = c.len-lanes.ensures
    ∙ ap (λ (x : ProgramEntries). length x.ranges) c.entries-entries.ensures.entries in
    let copies : c.in_ok-aggs.aggs.items
    ≡ replicate (length c.attrs-2.result.now) c.zeros-zeros.result = search rules in
    let aggs : c.in_ok-aggs.aggs.items ≡ replicate (vertices g) (zeros p) =
    copies ∙ (λ j. replicate (length (c.attrs-2.ensures.attrs j))
    ((c.zeros-zeros.ensures ∙ ap (λ n. replicate n (pos 0)) len) j)) in
    let table : c.new-rows.result ≡ record { vertices = vertices g; lanes = lanes p; rows = [] } =
    c.new-rows.ensures ∙ (λ j. record
    { vertices = length (c.attrs.ensures.attrs j); lanes = len j; rows = [] }) in
    record {
      vals = c.in_ok-vals.ensures.values;
      rows = table_first p g c.new-rows.result c.add_row.new.self c.deref.result.now
          c.deref-2.result.now table c.in_ok-add_row.ensures.ok
          (c.deref.ensures.value ∙ no_aggr p g c.in_ok-aggs.aggs.items aggs)
          (c.deref-2.ensures.value ∙ c.in_ok-vals.ensures.values);
    }

pub aggregates-requires-clause-before : goal.aggregates-requires-clause-before
aggregates-requires-clause-before c =
    let e = c.deref-in-loop-round-2.ensures.value ∙ c.loop-round.invariant.vals in
    record {
      safe = c.requires.safe;
      good = c.requires.good;
      long = vals_long c.args.program.now c.args.graph.now c.loop-round._round
          c.deref-in-loop-round-2.result.now e;
      ranged = vals_ranged c.args.program.now c.args.graph.now c.loop-round._round
          c.deref-in-loop-round-2.result.now e c.requires.safe c.requires.good;
    }

pub next_values-requires-clause-before : goal.next_values-requires-clause-before
next_values-requires-clause-before c =
    let e = c.deref-in-loop-round-4.ensures.value ∙ c.loop-round.invariant.vals in
    record {
      safe = c.requires.safe;
      good = c.requires.good;
      long = vals_long c.args.program.now c.args.graph.now c.loop-round._round
          c.deref-in-loop-round-4.result.now e;
      ranged = vals_ranged c.args.program.now c.args.graph.now c.loop-round._round
          c.deref-in-loop-round-4.result.now e c.requires.safe c.requires.good;
    }

pub add_row-requires-in-loop-round-clause-few : goal.add_row-requires-in-loop-round-clause-few
add_row-requires-in-loop-round-clause-few c =
    let n = ap (λ (t : RowTable). length t.rows) c.loop-round.invariant.rows
    ∙ length-rows_to c.args.program.now c.args.graph.now c.loop-round._round in
    let k = ap (λ (x : ProgramEntries). x.rounds) c.entries-entries.ensures.entries in
    let most = c.requires.safe.writable.rounds.most in
    let test = c.loop-round-test.true in
    omega arith

pub add_row-requires-in-loop-round-clause-aggs : goal.add_row-requires-in-loop-round-clause-aggs
add_row-requires-in-loop-round-clause-aggs c =
    let p : ProgramEntries = c.args.program.now in
    let g : Graph = c.args.graph.now in
    let i : ℕ = c.loop-round._round in
    aggs_long p g (i + 1) c.deref-in-loop-round-5.result.now
    (c.deref-in-loop-round-5.ensures.value
    ∙ next_aggr p g i c.deref-in-loop-round-2.result.now
    (c.deref-in-loop-round-2.ensures.value ∙ c.loop-round.invariant.vals)
    c.in_ok-aggs-2.aggs.items c.in_ok-aggs-2.ensures.aggregates)
    ∙ sym (ap (λ (t : RowTable). t.vertices) c.loop-round.invariant.rows)

pub add_row-requires-in-loop-round-clause-vals : goal.add_row-requires-in-loop-round-clause-vals
add_row-requires-in-loop-round-clause-vals c =
    let p : ProgramEntries = c.args.program.now in
    let g : Graph = c.args.graph.now in
    let i : ℕ = c.loop-round._round in
    vals_long p g (i + 1) c.deref-in-loop-round-6.result.now
    (c.deref-in-loop-round-6.ensures.value
    ∙ next_row p g i c.deref-in-loop-round-4.result.now
    (c.deref-in-loop-round-4.ensures.value ∙ c.loop-round.invariant.vals)
    c.in_ok-vals-2.vals.items c.in_ok-vals-2.ensures.values)
    ∙ sym (ap (λ (t : RowTable). t.vertices) c.loop-round.invariant.rows)

pub add_row-requires-in-loop-round-clause-agg_lanes :
    goal.add_row-requires-in-loop-round-clause-agg_lanes
add_row-requires-in-loop-round-clause-agg_lanes c = λ k d small.
    let p : ProgramEntries = c.args.program.now in
    let g : Graph = c.args.graph.now in
    let i : ℕ = c.loop-round._round in
    aggs_lanes p g (i + 1) c.deref-in-loop-round-5.result.now
    (c.deref-in-loop-round-5.ensures.value
    ∙ next_aggr p g i c.deref-in-loop-round-2.result.now
    (c.deref-in-loop-round-2.ensures.value ∙ c.loop-round.invariant.vals)
    c.in_ok-aggs-2.aggs.items c.in_ok-aggs-2.ensures.aggregates) k d small
    ∙ sym (ap (λ (t : RowTable). t.lanes) c.loop-round.invariant.rows)

pub add_row-requires-in-loop-round-clause-val_lanes :
    goal.add_row-requires-in-loop-round-clause-val_lanes
add_row-requires-in-loop-round-clause-val_lanes c = λ k d small.
    let p : ProgramEntries = c.args.program.now in
    let g : Graph = c.args.graph.now in
    let i : ℕ = c.loop-round._round in
    vals_lanes p g (i + 1) c.deref-in-loop-round-6.result.now
    (c.deref-in-loop-round-6.ensures.value
    ∙ next_row p g i c.deref-in-loop-round-4.result.now
    (c.deref-in-loop-round-4.ensures.value ∙ c.loop-round.invariant.vals)
    c.in_ok-vals-2.vals.items c.in_ok-vals-2.ensures.values) k d small
    ∙ sym (ap (λ (t : RowTable). t.lanes) c.loop-round.invariant.rows)

pub loop-round-preserved : goal.loop-round-preserved
loop-round-preserved c =
    let p : ProgramEntries = c.args.program.now in
    let g : Graph = c.args.graph.now in
    let i : ℕ = c.loop-round._round in
    let aggs = next_aggr p g i c.deref-in-loop-round-2.result.now
    (c.deref-in-loop-round-2.ensures.value ∙ c.loop-round.invariant.vals)
    c.in_ok-aggs-2.aggs.items c.in_ok-aggs-2.ensures.aggregates in
    let vals = next_row p g i c.deref-in-loop-round-4.result.now
    (c.deref-in-loop-round-4.ensures.value ∙ c.loop-round.invariant.vals)
    c.in_ok-vals-2.vals.items c.in_ok-vals-2.ensures.values in
    record {
      vals = vals;
      rows = table_next p g i c.loop-round.rows c.add_row-in-loop-round.new.self
          c.deref-in-loop-round-5.result.now c.deref-in-loop-round-6.result.now
          c.loop-round.invariant.rows c.in_ok-add_row-2.ensures.ok
          (c.deref-in-loop-round-5.ensures.value ∙ aggs)
          (c.deref-in-loop-round-6.ensures.value ∙ vals);
    }
