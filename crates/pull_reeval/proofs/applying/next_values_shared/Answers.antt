use Rattle.std.proofs.Common.{◌≡◌, ℕ, ℤ, List, ◌<◌, ◌-◌, ◌∙◌, length, map, ap, arith}
use Rattle.std.specs.List.{range_with_len}
use Rattle.std.proofs.lemmas.Slice.Zip.{AllZip-map}
use Rattle.rayon.specs.Numbers.{nat_range}
use Rattle.rayon.proofs.ToStd.{nat_range-All}
use Rattle.bolt_base.specs.Graph.{Graph}
use Rattle.vertex_expr.specs.declared.program.ProgramEntries.{ProgramEntries}
use Rattle.run_model.specs.Rows.{Lists}
use Rattle.pull_reeval.specs.Applying.{CanApply, applied_at}
use Rattle.pull_reeval.proofs.applying.next_values_shared.Goals as goal

pub collect-requires-clause-ready : goal.collect-requires-clause-ready
collect-requires-clause-ready g c κs within =
    let p : ProgramEntries = c.args.program.now in
    let h : Graph = g.A.Adjacency.plain c.args.graph.now in
    let vals : Lists = g.V.ValueRow.values c.args.row.now in
    let vs : List ℕ = c.args.vertices.now in
    let ends = c.into_par_iter.ensures in
    let inside = nat_range-All (λ k. CanApply p h vals vs c.args.aggs.now × (k < length vs)) 0
    (length vs) (λ k low high. (c.requires.ready, omega arith)) in
    rw (c.map.ensures.base, c.map.ensures.f, ends.0, ends.1) (λ k d lt. (inside k d lt, λ y q. tt))

pub returns : goal.returns
returns g c =
    let p : ProgramEntries = c.args.program.now in
    let h : Graph = g.A.Adjacency.plain c.args.graph.now in
    let n : ℕ = length c.args.vertices.now in
    let whole : n - 0 ≡ n = omega arith in
    let ends = c.into_par_iter.ensures in
    let f : ℕ → List ℤ = applied_at p h (g.V.ValueRow.values c.args.row.now) c.args.vertices.now
    c.args.aggs.now in
    let ok = c.in_ok-vals.ensures in
    let chain = rw (c.map.ensures.base, c.map.ensures.f) at ok.1 in
    let places = chain.1 ∙ (λ i. nat_range (ends.0 i) (ends.1 i)) ∙ ap (range_with_len 0) whole in
    ok.2 ∙ AllZip-map f chain.0 ok.0 chain.2 ∙ ap (map f) places
