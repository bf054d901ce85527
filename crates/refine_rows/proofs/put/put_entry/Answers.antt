use Rattle.std.proofs.Common.{◌-◌, length, ap, sym, ◌∙◌, subst, arith}
use Rattle.bolt_base.specs.Graph.{Graph}
use Rattle.bolt_base.specs.Keep.{Entry}
use Rattle.vertex_expr.specs.ProgramBounds.{aggregated, lane_spans}
use Rattle.vertex_expr.specs.Span.{AreIn}
use Rattle.vertex_expr.specs.declared.program.ProgramEntries.{ProgramEntries}
use Rattle.run_model.proofs.InRange.{length-by_lane, values_in}
use Rattle.run_model.proofs.RowLemmas.{aggregates_ranged}
use Rattle.agg_history.specs.Puts.{PutTable}
use Rattle.refine_rows.proofs.PutLemmas.{agg_is_new, entry_made, not_put, vertex_there, put_made}
use Rattle.refine_rows.proofs.ReadLemmas.{agg_long}
use Rattle.refine_rows.proofs.put.put_entry.Goals as goal

pub laid_value-before-requires : goal.laid_value-before-requires
laid_value-before-requires g c =
    let p : ProgramEntries = c.args.program.now in
    let was : Graph = g.O.OldGraph.graph in
    let now : Graph = g.A.Adjacency.plain c.args.graph.now in
    let t : PutTable = c.args.overlay.now in
    let there = vertex_there p was now c.args.history.now t c.args.i c.args.v c.requires.within
    c.requires.next in
    let some = c.requires.some in
    let low = c.requires.low in
    record {
      over = c.requires.over;
      laid = c.requires.within.laid;
      iteration = omega arith;
      vertex = there;
      refined = c.requires.within.done (c.args.i - 1) c.args.v (omega arith) there;
    }

pub next_value-value-requires : goal.next_value-value-requires
next_value-value-requires g c =
    let p : ProgramEntries = c.args.program.now in
    let was : Graph = g.O.OldGraph.graph in
    let now : Graph = g.A.Adjacency.plain c.args.graph.now in
    let t : PutTable = c.args.overlay.now in
    let there = vertex_there p was now c.args.history.now t c.args.i c.args.v c.requires.within
    c.requires.next in
    record {
      safe = c.requires.over.safe;
      good = c.requires.over.new;
      agg = subst (AreIn (aggregated p))
          (sym (c.requires.agg ∙ agg_is_new p was now c.requires.over c.args.history.now.cut
          c.args.i c.args.v c.requires.some c.requires.low there))
          (aggregates_ranged p now c.requires.over.safe c.requires.over.new c.args.i c.args.v
          c.requires.some there);
      before = subst (AreIn (lane_spans p.ranges)) (sym c.laid_value-before.ensures)
          (values_in p now c.requires.over.safe c.requires.over.new (c.args.i - 1) c.args.v there);
      vertex = there;
    }

pub put-requires : goal.put-requires
put-requires g c =
    let p : ProgramEntries = c.args.program.now in
    let was : Graph = g.O.OldGraph.graph in
    let now : Graph = g.A.Adjacency.plain c.args.graph.now in
    let t : PutTable = c.args.overlay.now in
    let laid = c.requires.within.laid in
    let there = vertex_there p was now c.args.history.now t c.args.i c.args.v c.requires.within
    c.requires.next in
    let low = c.requires.low in
    let cuts = laid.belongs.cut in
    let count = laid.vertices in
    let wide = laid.belongs.lanes ∙ laid.stands.lanes in
    record {
      iteration = omega arith;
      vertex = omega arith;
      agg = ap length (c.requires.agg
          ∙ agg_is_new p was now c.requires.over c.args.history.now.cut c.args.i c.args.v
          c.requires.some c.requires.low there)
          ∙ agg_long p now c.args.i c.args.v there ∙ sym wide;
      val = ap length c.next_value-value.ensures.value ∙ length-by_lane p _ ∙ sym wide;
      once = not_put p was now c.args.history.now t c.args.i c.args.v c.requires.within
          c.requires.next;
    }

pub returns : goal.returns
returns g c =
    let p : ProgramEntries = c.args.program.now in
    let was : Graph = g.O.OldGraph.graph in
    let now : Graph = g.A.Adjacency.plain c.args.graph.now in
    let t : PutTable = c.args.overlay.now in
    let laid = c.requires.within.laid in
    let there = vertex_there p was now c.args.history.now t c.args.i c.args.v c.requires.within
    c.requires.next in
    let cuts = laid.belongs.cut in
    let low = c.requires.low in
    let e : Entry = (c.args.agg.now, c.next_value-value.result) in
    let made = entry_made p was now c.requires.over c.args.history.now.cut c.args.i c.args.v
    c.requires.some c.requires.low there
    c.args.agg.now c.laid_value-before.result c.next_value-value.result c.requires.agg
    c.laid_value-before.ensures c.next_value-value.ensures.value in
    let more = put_made p was now c.args.history.now t c.args.i c.args.v c.requires.within
    c.requires.next
    e (omega arith) made c.put.new.self c.in_ok-put.ensures.ok c.in_ok-put.ensures.found in
    record { within = more.0; put = more.1; err = tt }
