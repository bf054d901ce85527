use Rattle.std.proofs.Common.{rules, ◌≡◌, pos, [], length, replicate, sym, ap, ◌∙◌}
use Rattle.bolt_base.specs.Graph.{Graph, vertices}
use Rattle.bolt_base.specs.RowTable.{RowTable}
use Rattle.vertex_expr.specs.declared.program.ProgramEntries.{ProgramEntries}
use Rattle.run_model.specs.Program.{lanes, zeros}
use Rattle.run_model.proofs.Runs.{no_aggr, vals_long, vals_lanes, table_first}
use Rattle.sync_engine.proofs.run.begin.Goals as goal

pub add_row-requires-clause-vals : goal.add_row-requires-clause-vals
add_row-requires-clause-vals g c =
    let p : ProgramEntries = c.args.program.now in
    let h : Graph = g.A.Adjacency.plain c.args.graph.now in
    vals_long p h 0 c.deref-2.result.now (c.deref-2.ensures.value ∙ c.in_ok-vals.ensures)
    ∙ sym c.vertices-vertices.ensures ∙ sym (ap (λ (t : RowTable). t.vertices) c.new-rows.ensures)

pub add_row-requires-clause-val_lanes : goal.add_row-requires-clause-val_lanes
add_row-requires-clause-val_lanes g c =
    let p : ProgramEntries = c.args.program.now in
    let h : Graph = g.A.Adjacency.plain c.args.graph.now in
    λ k d small.
    vals_lanes p h 0 c.deref-2.result.now (c.deref-2.ensures.value ∙ c.in_ok-vals.ensures) k d small
    ∙ sym (c.len-lanes.ensures
    ∙ ap (λ (x : ProgramEntries). length x.ranges) c.entries.ensures.entries)
    ∙ sym (ap (λ (t : RowTable). t.lanes) c.new-rows.ensures)

pub returns-clause-rows : goal.returns-clause-rows
returns-clause-rows g c =
    let p : ProgramEntries = c.args.program.now in
    let h : Graph = g.A.Adjacency.plain c.args.graph.now in
    let len : c.len-lanes.result ≡ lanes p = c.len-lanes.ensures
    ∙ ap (λ (x : ProgramEntries). length x.ranges) c.entries.ensures.entries in
    let copies : c.in_ok-aggs.aggs.items
    ≡ replicate c.vertices-vertices.result c.zeros-zeros.result = search rules in
    let aggs : c.in_ok-aggs.aggs.items ≡ replicate (vertices h) (zeros p) =
    copies ∙ (λ j. replicate (c.vertices-vertices.ensures j)
    ((c.zeros-zeros.ensures ∙ ap (λ n. replicate n (pos 0)) len) j)) in
    let table : c.new-rows.result ≡ record { vertices = vertices h; lanes = lanes p; rows = [] } =
    c.new-rows.ensures
    ∙ (λ j. record { vertices = c.vertices-vertices.ensures j; lanes = len j; rows = [] }) in
    table_first p h c.new-rows.result c.add_row.new.self c.deref.result.now c.deref-2.result.now
    table c.in_ok-add_row.ensures.ok
    (c.deref.ensures.value ∙ no_aggr p h c.in_ok-aggs.aggs.items aggs)
    (c.deref-2.ensures.value ∙ c.in_ok-vals.ensures)
