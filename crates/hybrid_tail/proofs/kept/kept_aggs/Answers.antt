use Rattle.std.proofs.Common.{◌≡◌, [], map, refl, sym, ap, ◌∙◌, arith}
use Rattle.std.specs.List.{range_with_len}
use Rattle.std.proofs.lemmas.List.FromFn.{fill_by_all}
use Rattle.bolt_base.specs.Graph.{Graph, vertices}
use Rattle.vertex_expr.specs.declared.program.ProgramEntries.{ProgramEntries}
use Rattle.run_model.specs.Rows.{at, aggr}
use Rattle.run_model.proofs.Gathering.{table_more}
use Rattle.run_model.proofs.RowLemmas.{aggregates_whole}
use Rattle.hybrid_tail.proofs.kept.kept_aggs.Goals as goal

pub loop-v-preserved : goal.loop-v-preserved
loop-v-preserved g c =
    table_more (at (aggr c.args.program.now (g.A.Adjacency.plain c.args.graph.now) c.args.i))
    c.loop-v.v c.loop-v.aggs.items c.push.new.self.items c.kept_agg.result
    c.in_ok-push.ensures.items
    c.loop-v.invariant c.kept_agg.ensures

pub returns : goal.returns
returns g c =
    let p : ProgramEntries = c.args.program.now in
    let now : Graph = g.A.Adjacency.plain c.args.graph.now in
    let past = c.loop-v-test.false in
    let low = c.loop-v.auto.v-end in
    let count = c.vertices-vertices.ensures in
    let all : c.loop-v.v ≡ vertices now = omega arith in
    c.loop-v.invariant
    ∙ ap (λ n. map (at (aggr p now c.args.i)) (range_with_len 0 n)) all
    ∙ sym (fill_by_all (at (aggr p now c.args.i)) (aggr p now c.args.i) (vertices now) []
    (aggregates_whole p now c.args.i).each_vertex (λ v small. refl))
