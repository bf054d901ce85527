use Rattle.std.specs.List.{range_with_len}
use Rattle.std.proofs.Common.{◌≡◌, [], map, ap, ◌∙◌, subst, arith, length}
use Rattle.std.proofs.lemmas.List.{get_or_read}
use Rattle.std.proofs.lemmas.List.FromFn.{length-map-range_with_len}
use Rattle.bolt_base.specs.Graph.{Graph, vertices}
use Rattle.vertex_expr.specs.declared.program.ProgramEntries.{ProgramEntries}
use Rattle.run_model.specs.Rows.{Lists}
use Rattle.run_model.specs.Given.{AreGiven, source_gives}
use Rattle.run_model.proofs.GivenLemmas.{edge_evaluable, given_at}
use Rattle.run_model.proofs.given.edge_gives.Goals as goal

given_long : (p : ProgramEntries) (h : Graph) (vals given : Lists)
    → given ≡ map (source_gives p h vals) (range_with_len 0 (vertices h))
    → length given ≡ vertices h
given_long p h vals given e = ap length e
    ∙ length-map-range_with_len (source_gives p h vals) 0 (vertices h)

pub index-requires : goal.index-requires
index-requires c =
    let p : ProgramEntries = c.args.program.now in
    let h : Graph = c.args.graph.now in
    let are = subst (AreGiven p h c.args.vals.now) c.in-BySource.is c.requires.given in
    let long = given_long p h c.args.vals.now c.in-BySource.given.items are.1 in
    let there = c.requires.edge.source in
    omega arith

pub contributed-requires-clause-lanes : goal.contributed-requires-clause-lanes
contributed-requires-clause-lanes c = edge_evaluable c.args.program.now c.args.graph.now
    c.args.vals.now
    c.requires.before c.args.e c.requires.edge

pub returns-in-BySource : goal.returns-in-BySource
returns-in-BySource c =
    let p : ProgramEntries = c.args.program.now in
    let h : Graph = c.args.graph.now in
    let are = subst (AreGiven p h c.args.vals.now) c.in-BySource.is c.requires.given in
    let long = given_long p h c.args.vals.now c.in-BySource.given.items are.1 in
    let there = c.requires.edge.source in
    record {
      numbers = get_or_read c.in-BySource.given.items c.args.e.src c.index.result.now (omega arith)
          c.index.ensures []
          ∙ given_at p h c.args.vals.now c.requires.before are.0 c.in-BySource.given.items are.1
          c.args.e c.requires.edge;
    }
