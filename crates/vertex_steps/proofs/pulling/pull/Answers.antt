use Rattle.std.proofs.Common.{rules, ◌<◌, ◌∙◌, refl, arith}
use Rattle.bolt_base.specs.Graph.{Graph, indeg}
use Rattle.vertex_expr.specs.declared.program.ProgramEntries.{ProgramEntries}
use Rattle.run_model.specs.Given.{edge_gives}
use Rattle.run_model.specs.Rows.{Lists}
use Rattle.vertex_steps.proofs.Pulls.{edge_is, totals_long, sums_fit, one_more}
use Rattle.vertex_steps.proofs.pulling.pull.Goals as goal

pub gather_edge-requires-clause-edge : goal.gather_edge-requires-clause-edge
gather_edge-requires-clause-edge g c =
    let h : Graph = g.A.Adjacency.plain c.args.graph.now in
    let vals : Lists = g.V.ValueRow.values c.args.row.now in
    let small : c.loop-k.k < indeg h c.args.v = search rules in
    edge_is c.args.program.now h vals c.requires.before c.args.v c.loop-k.k small
    c.in_edge_near-e.result c.in_edge_near-e.ensures.edge

pub gather_edge-requires-clause-long : goal.gather_edge-requires-clause-long
gather_edge-requires-clause-long g c =
    let p : ProgramEntries = c.args.program.now in
    let h : Graph = g.A.Adjacency.plain c.args.graph.now in
    let vals : Lists = g.V.ValueRow.values c.args.row.now in
    let small : c.loop-k.k < indeg h c.args.v = search rules in
    totals_long p h vals c.requires.before c.args.v c.loop-k.k small
    c.in_edge_near-e.result c.in_edge_near-e.ensures.edge c.loop-k.totals
    c.loop-k.invariant.totals (edge_gives p h vals c.in_edge_near-e.result) refl

pub gather_edge-requires-clause-fits : goal.gather_edge-requires-clause-fits
gather_edge-requires-clause-fits g c =
    let p : ProgramEntries = c.args.program.now in
    let h : Graph = g.A.Adjacency.plain c.args.graph.now in
    let vals : Lists = g.V.ValueRow.values c.args.row.now in
    let small : c.loop-k.k < indeg h c.args.v = search rules in
    sums_fit p h vals c.requires.before c.args.v c.loop-k.k small
    c.in_edge_near-e.result c.in_edge_near-e.ensures.edge c.loop-k.totals
    c.loop-k.invariant.totals (edge_gives p h vals c.in_edge_near-e.result) refl

pub loop-k-preserved : goal.loop-k-preserved
loop-k-preserved g c =
    let p : ProgramEntries = c.args.program.now in
    let h : Graph = g.A.Adjacency.plain c.args.graph.now in
    let vals : Lists = g.V.ValueRow.values c.args.row.now in
    let small : c.loop-k.k < indeg h c.args.v = search rules in
    let was = c.loop-k.invariant.count in
    let more = c.in_edge_near-e.ensures.count in
    record {
      totals = c.gather_edge.ensures.totals
          ∙ one_more p h vals c.requires.before c.args.v c.loop-k.k small
          c.in_edge_near-e.result c.in_edge_near-e.ensures.edge c.loop-k.totals
          c.loop-k.invariant.totals (edge_gives p h vals c.in_edge_near-e.result) refl;
      count = omega arith;
      units = c.in_edge_near-e.ensures.units ∙ c.loop-k.invariant.units;
    }
