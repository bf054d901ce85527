use Rattle.std.proofs.Common.{◌≡◌, pos, length, replicate, ap, sym, ◌∙◌}
use Rattle.std.proofs.Common.{arith}
use Rattle.std.proofs.lemmas.List.{length-replicate}
use Rattle.bolt_base.specs.Graph.{Graph}
use Rattle.bolt_base.specs.Keep.{Entry}
use Rattle.vertex_expr.specs.declared.program.ProgramEntries.{ProgramEntries}
use Rattle.run_model.specs.Program.{lanes}
use Rattle.run_model.proofs.InRange.{length-by_lane}
use Rattle.agg_history.specs.Puts.{PutTable}
use Rattle.refine_rows.proofs.PutLemmas.{first_made, not_put, vertex_there, put_made}
use Rattle.refine_rows.proofs.first.put_first.Goals as goal

pub first_value-value-requires : goal.first_value-value-requires
first_value-value-requires g c = record {
  safe = c.requires.over.safe;
  good = c.requires.over.new;
  vertex = vertex_there c.args.program.now g.O.OldGraph.graph (g.A.Adjacency.plain c.args.graph.now)
      c.args.history.now c.args.overlay.now 0 c.args.v c.requires.within c.requires.next;
}

pub put-requires : goal.put-requires
put-requires g c =
    let p : ProgramEntries = c.args.program.now in
    let was : Graph = g.O.OldGraph.graph in
    let now : Graph = g.A.Adjacency.plain c.args.graph.now in
    let t : PutTable = c.args.overlay.now in
    let laid = c.requires.within.laid in
    let there = vertex_there p was now c.args.history.now t 0 c.args.v c.requires.within
    c.requires.next in
    let count = laid.vertices in
    let wide = laid.belongs.lanes ∙ laid.stands.lanes in
    let len : c.len.result ≡ lanes p = c.len.ensures
    ∙ ap (λ (x : ProgramEntries). length x.ranges) c.entries.ensures.entries in
    record {
      iteration = omega arith;
      vertex = omega arith;
      agg = ap length c.zeros-zeros.ensures ∙ length-replicate c.len.result (pos 0) ∙ len
          ∙ sym wide;
      val = ap length c.first_value-value.ensures.value ∙ length-by_lane p _ ∙ sym wide;
      once = not_put p was now c.args.history.now t 0 c.args.v c.requires.within c.requires.next;
    }

pub returns : goal.returns
returns g c =
    let p : ProgramEntries = c.args.program.now in
    let was : Graph = g.O.OldGraph.graph in
    let now : Graph = g.A.Adjacency.plain c.args.graph.now in
    let t : PutTable = c.args.overlay.now in
    let there = vertex_there p was now c.args.history.now t 0 c.args.v c.requires.within
    c.requires.next in
    let len : c.len.result ≡ lanes p = c.len.ensures
    ∙ ap (λ (x : ProgramEntries). length x.ranges) c.entries.ensures.entries in
    let e : Entry = (c.zeros-zeros.result, c.first_value-value.result) in
    let made = first_made p was now c.requires.over c.args.v there c.zeros-zeros.result
    c.first_value-value.result
    (c.zeros-zeros.ensures ∙ ap (λ n. replicate n (pos 0)) len) c.first_value-value.ensures.value in
    let more = put_made p was now c.args.history.now t 0 c.args.v c.requires.within c.requires.next
    e (omega arith) made c.put.new.self c.in_ok-put.ensures.ok c.in_ok-put.ensures.found in
    record { within = more.0; put = more.1; err = tt }
