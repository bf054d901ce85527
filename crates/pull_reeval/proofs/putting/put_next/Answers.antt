use Rattle.std.proofs.Common.{ap, sym, ◌∙◌, length, arith}
use Rattle.bolt_base.specs.Graph.{Graph}
use Rattle.bolt_base.specs.Keep.{Entry}
use Rattle.vertex_expr.specs.declared.program.ProgramEntries.{ProgramEntries}
use Rattle.agg_history.specs.Puts.{PutTable}
use Rattle.refine_rows.proofs.PutLemmas.{not_put, put_made, vertex_there}
use Rattle.refine_rows.proofs.ReadLemmas.{agg_long, value_long}
use Rattle.pull_reeval.proofs.putting.put_next.Goals as goal

pub put-requires-clause-vertex : goal.put-requires-clause-vertex
put-requires-clause-vertex g c =
    let there = vertex_there c.args.program.now g.O.OldGraph.graph
    (g.A.Adjacency.plain c.args.graph.now) c.args.history.now c.args.overlay.now c.args.i c.args.v
    c.requires.within c.requires.next in
    let count = c.requires.within.laid.vertices in
    omega arith

pub put-requires-clause-agg : goal.put-requires-clause-agg
put-requires-clause-agg g c =
    let p : ProgramEntries = c.args.program.now in
    let now : Graph = g.A.Adjacency.plain c.args.graph.now in
    let there = vertex_there p g.O.OldGraph.graph now c.args.history.now c.args.overlay.now
    c.args.i c.args.v c.requires.within c.requires.next in
    let laid = c.requires.within.laid in
    ap length c.requires.agg ∙ agg_long p now c.args.i c.args.v there
    ∙ sym (laid.belongs.lanes ∙ laid.stands.lanes)

pub put-requires-clause-val : goal.put-requires-clause-val
put-requires-clause-val g c =
    let p : ProgramEntries = c.args.program.now in
    let now : Graph = g.A.Adjacency.plain c.args.graph.now in
    let there = vertex_there p g.O.OldGraph.graph now c.args.history.now c.args.overlay.now
    c.args.i c.args.v c.requires.within c.requires.next in
    let laid = c.requires.within.laid in
    ap length c.requires.val ∙ value_long p now c.args.i c.args.v there
    ∙ sym (laid.belongs.lanes ∙ laid.stands.lanes)

pub put-requires-clause-once : goal.put-requires-clause-once
put-requires-clause-once g c =
    not_put c.args.program.now g.O.OldGraph.graph (g.A.Adjacency.plain c.args.graph.now)
    c.args.history.now c.args.overlay.now c.args.i c.args.v c.requires.within c.requires.next

pub returns : goal.returns
returns g c =
    let p : ProgramEntries = c.args.program.now in
    let t : PutTable = c.args.overlay.now in
    let cuts = c.requires.within.laid.belongs.cut in
    let low = c.requires.low in
    let e : Entry = (c.args.agg, c.args.val) in
    let more = put_made p g.O.OldGraph.graph (g.A.Adjacency.plain c.args.graph.now)
    c.args.history.now t c.args.i c.args.v c.requires.within c.requires.next e (omega arith)
    (λ j. (c.requires.agg j, c.requires.val j)) c.put.new.self c.in_ok-put.ensures.ok
    c.in_ok-put.ensures.found in
    record { within = more.0; put = more.1 }
