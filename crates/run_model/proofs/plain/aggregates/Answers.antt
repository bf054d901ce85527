use Rattle.std.proofs.Common.{List, subst, arith}
use Rattle.std.proofs.lemmas.List.{take_all}
use Rattle.bolt_base.specs.Graph.{Graph, vertices}
use Rattle.bolt_base.specs.declared.edge.Edge.{Edge}
use Rattle.vertex_expr.specs.declared.program.ProgramEntries.{ProgramEntries}
use Rattle.run_model.proofs.Gathering.{is_edge, ends_in_graph, totals_long, ones_long, sums_fit}
use Rattle.run_model.proofs.Gathering.{table_next}
use Rattle.run_model.proofs.Listed.{destination, with_edge, no_edges, aggregates_are}
use Rattle.run_model.proofs.Tables.{IsFolded}
use Rattle.run_model.proofs.plain.aggregates.Goals as goal

pub edge_gives-ones-requires-clause-edge : goal.edge_gives-ones-requires-clause-edge
edge_gives-ones-requires-clause-edge c =
    is_edge c.args.program.now c.args.graph.now c.requires.before.safe c.requires.before.good
    c.edges-edges.result.now (record
    { same = c.edges-edges.ensures.graph; apart = c.edges-edges.ensures.apart })
    c.args.vals.now c.requires.before.ranged c.loop-e.e-index c.loop-e-test.true

pub index-requires : goal.index-requires
index-requires c =
    let end = (ends_in_graph c.args.program.now c.args.graph.now c.requires.before.safe
    c.requires.before.good c.edges-edges.result.now
    (record { same = c.edges-edges.ensures.graph; apart = c.edges-edges.ensures.apart })
    c.args.vals.now c.requires.before.ranged c.loop-e.e-index c.loop-e-test.true).1 in
    let size = c.loop-e.invariant.size in
    omega arith

pub with_ones-requires-clause-totals : goal.with_ones-requires-clause-totals
with_ones-requires-clause-totals c =
    totals_long c.args.program.now c.args.graph.now c.requires.before.safe c.requires.before.good
    c.edges-edges.result.now (record
    { same = c.edges-edges.ensures.graph; apart = c.edges-edges.ensures.apart })
    c.args.vals.now c.requires.before.ranged c.loop-e.e-index c.loop-e-test.true
    c.loop-e.aggs.items c.loop-e.invariant c.index.result.now c.index.ensures
    c.edge_gives-ones.result c.edge_gives-ones.ensures.numbers

pub with_ones-requires-clause-ones : goal.with_ones-requires-clause-ones
with_ones-requires-clause-ones c =
    ones_long c.args.program.now c.args.graph.now c.requires.before.safe c.requires.before.good
    c.edges-edges.result.now (record
    { same = c.edges-edges.ensures.graph; apart = c.edges-edges.ensures.apart })
    c.args.vals.now c.requires.before.ranged c.loop-e.e-index c.loop-e-test.true
    c.loop-e.aggs.items c.loop-e.invariant c.index.result.now c.index.ensures
    c.edge_gives-ones.result c.edge_gives-ones.ensures.numbers

pub with_ones-requires-clause-fits : goal.with_ones-requires-clause-fits
with_ones-requires-clause-fits c =
    sums_fit c.args.program.now c.args.graph.now c.requires.before.safe c.requires.before.good
    c.edges-edges.result.now (record
    { same = c.edges-edges.ensures.graph; apart = c.edges-edges.ensures.apart })
    c.args.vals.now c.requires.before.ranged c.loop-e.e-index c.loop-e-test.true
    c.loop-e.aggs.items c.loop-e.invariant c.index.result.now c.index.ensures
    c.edge_gives-ones.result c.edge_gives-ones.ensures.numbers

pub index_mut-requires : goal.index_mut-requires
index_mut-requires c =
    let end = (ends_in_graph c.args.program.now c.args.graph.now c.requires.before.safe
    c.requires.before.good c.edges-edges.result.now
    (record { same = c.edges-edges.ensures.graph; apart = c.edges-edges.ensures.apart })
    c.args.vals.now c.requires.before.ranged c.loop-e.e-index c.loop-e-test.true).1 in
    let size = c.loop-e.invariant.size in
    omega arith

pub loop-e-preserved : goal.loop-e-preserved
loop-e-preserved c =
    table_next c.args.program.now c.args.graph.now c.requires.before.safe c.requires.before.good
    c.edges-edges.result.now (record
    { same = c.edges-edges.ensures.graph; apart = c.edges-edges.ensures.apart })
    c.args.vals.now c.requires.before.ranged c.loop-e.e-index c.loop-e-test.true
    c.loop-e.aggs.items c.loop-e.invariant c.index.result.now c.index.ensures
    c.edge_gives-ones.result c.edge_gives-ones.ensures.numbers c.with_ones.result
    c.with_ones.ensures.totals

pub returns : goal.returns
returns c =
    let p : ProgramEntries = c.args.program.now in
    let g : Graph = c.args.graph.now in
    let es : List Edge = c.edges-edges.result.now in
    record {
      aggregates = aggregates_are p g es
          (record { same = c.edges-edges.ensures.graph; apart = c.edges-edges.ensures.apart })
          c.args.vals.now c.loop-e.aggs.items
          (subst (λ xs. IsFolded destination (with_edge p g c.args.vals.now) (no_edges p) xs
          (vertices g) c.loop-e.aggs.items) (take_all c.loop-e.e-index es c.loop-e-test.false)
          c.loop-e.invariant);
    }
