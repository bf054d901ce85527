use Rattle.std.proofs.Common.{ℕ, ◌++◌, sym, ap, ◌∙◌, arith}
use Rattle.bolt_base.specs.Graph.{Graph, out_edges}
use Rattle.core_adds.proofs.OutEdges.{no_source, next_source, every_source}
use Rattle.core_adds.proofs.edges.edges_of.Goals as goal

pub loop-u-init : goal.loop-u-init
loop-u-init g c =
    c.new-es.ensures.items ∙ sym (no_source (g.A.Adjacency.plain c.args.graph.now))

pub loop-u-preserved : goal.loop-u-preserved
loop-u-preserved g c =
    let h : Graph = g.A.Adjacency.plain c.args.graph.now in
    let u : ℕ = c.loop-u.u in
    c.in_ok-push_out_edges.ensures ∙ ap (λ xs. xs ++ out_edges h u) c.loop-u.invariant
    ∙ next_source h u

pub returns : goal.returns
returns g c =
    let h : Graph = g.A.Adjacency.plain c.args.graph.now in
    let long = c.vertices-u-end.ensures in
    let past = c.loop-u-test.false in
    c.loop-u.invariant
    ∙ every_source c.args.program.now.limits h c.loop-u.u c.requires (omega arith)
