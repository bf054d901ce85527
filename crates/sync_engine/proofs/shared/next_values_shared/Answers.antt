use Rattle.std.proofs.Common.{◌≡◌, ℕ, ℤ, List, ◌<◌, ◌-◌, ◌∙◌, map, ap, arith}
use Rattle.std.specs.List.{range_with_len}
use Rattle.std.proofs.lemmas.Slice.Zip.{AllZip-map}
use Rattle.rayon.specs.Numbers.{nat_range}
use Rattle.rayon.proofs.ToStd.{nat_range-All}
use Rattle.bolt_base.specs.Graph.{Graph, vertices}
use Rattle.vertex_expr.specs.declared.program.ProgramEntries.{ProgramEntries}
use Rattle.run_model.specs.Rows.{applied, at, each_vertex, gathered}
use Rattle.run_model.specs.Given.{IsBefore}
use Rattle.sync_engine.proofs.shared.next_values_shared.Goals as goal

pub collect-requires-clause-ready : goal.collect-requires-clause-ready
collect-requires-clause-ready g c κs within =
    let p : ProgramEntries = c.args.program.now in
    let h : Graph = g.A.Adjacency.plain c.args.graph.now in
    let n : ℕ = c.vertices.result in
    let all : n ≡ vertices h = c.vertices.ensures in
    let ends = c.into_par_iter.ensures in
    let inside = nat_range-All
    (λ v. IsBefore p h c.args.vals.now
    × (c.args.aggs.now ≡ each_vertex h (gathered p h c.args.vals.now)) × (v < vertices h)) 0 n
    (λ v low high. (c.requires.before, c.requires.aggs, omega (arith, all))) in
    rw (c.map.ensures.base, c.map.ensures.f, c.with_min_len.ensures.base, ends.0, ends.1)
    (λ k d lt. (inside k d lt, λ y q. tt))

pub returns : goal.returns
returns g c =
    let p : ProgramEntries = c.args.program.now in
    let h : Graph = g.A.Adjacency.plain c.args.graph.now in
    let n : ℕ = c.vertices.result in
    let whole : n - 0 ≡ vertices h = omega (arith, c.vertices.ensures) in
    let ends = c.into_par_iter.ensures in
    let f : ℕ → List ℤ = λ v.
    applied p h (gathered p h c.args.vals.now v) (at c.args.vals.now v) v in
    let ok = c.in_ok-next.ensures in
    let chain = rw (c.map.ensures.base, c.map.ensures.f, c.with_min_len.ensures.base) at ok.1 in
    let places = chain.1 ∙ (λ i. nat_range (ends.0 i) (ends.1 i)) ∙ ap (range_with_len 0) whole in
    ok.2 ∙ AllZip-map f chain.0 ok.0 chain.2 ∙ ap (map f) places
