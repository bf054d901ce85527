use Rattle.std.proofs.Common.{◌≡◌, ◌+◌, ◌-◌, ℕ, not, filter, length, sym, ap, ◌∙◌, arith}
use Rattle.std.specs.Cmp.Lexicographic.{pointwise}
use Rattle.std.specs.List.{range_with_len}
use Rattle.std.specs.Ordering.{int_eq}
use Rattle.bolt_base.specs.Graph.{Graph, vertices}
use Rattle.vertex_expr.specs.declared.program.ProgramEntries.{ProgramEntries}
use Rattle.run_model.specs.Rows.{aggr, at, row}
use Rattle.run_model.proofs.RowLemmas.{values_whole}
use Rattle.hybrid_tail.proofs.kept.rows_at_cut.Goals as goal

pub moved_vertices-requires-clause-long : goal.moved_vertices-requires-clause-long
moved_vertices-requires-clause-long g c =
    let p : ProgramEntries = c.args.program.now in
    let h : Graph = g.A.Adjacency.plain c.args.graph.now in
    ap length (c.deref.ensures.value ∙ c.in_ok-last.ensures)
    ∙ (values_whole p h _).each_vertex
    ∙ sym (ap length (c.deref-2.ensures.value ∙ c.in_ok-vals.ensures)
    ∙ (values_whole p h _).each_vertex)

pub moved_vertices-requires-clause-few : goal.moved_vertices-requires-clause-few
moved_vertices-requires-clause-few g c =
    let p : ProgramEntries = c.args.program.now in
    let h : Graph = g.A.Adjacency.plain c.args.graph.now in
    let long : length c.deref-2.result.now ≡ vertices h =
    ap length (c.deref-2.ensures.value ∙ c.in_ok-vals.ensures) ∙ (values_whole p h _).each_vertex
    in
    let count = c.vertices-vertices.ensures in
    omega arith

pub returns : goal.returns
returns g c =
    let p : ProgramEntries = c.args.program.now in
    let h : Graph = g.A.Adjacency.plain c.args.graph.now in
    let cut : ℕ = c.args.history.now.cut in
    let is = c.cut-cut.ensures in
    let d : c.cut-cut.result - 1 ≡ cut + 1 - 2 = omega arith in
    let e : c.cut-cut.result ≡ cut + 1 - 1 = omega arith in
    let vals : c.deref-2.result.now ≡ row p h (cut + 1 - 1) =
    c.deref-2.ensures.value ∙ c.in_ok-vals.ensures ∙ ap (row p h) e in
    let last : c.deref.result.now ≡ row p h (cut + 1 - 2) =
    c.deref.ensures.value ∙ c.in_ok-last.ensures ∙ ap (row p h) d in
    record {
      aggs = c.in_ok-aggs.ensures ∙ ap (aggr p h) e;
      vals = c.in_ok-vals.ensures ∙ ap (row p h) e;
      last = c.in_ok-last.ensures ∙ ap (row p h) d;
      moved = c.in_ok-moved.ensures
          ∙ (λ j. filter (λ v. not (pointwise int_eq (at (last j) v) (at (vals j) v)))
          (range_with_len 0 ((ap length vals ∙ (values_whole p h (cut + 1 - 1)).each_vertex) j)));
    }
