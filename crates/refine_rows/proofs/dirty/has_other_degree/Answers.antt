use Rattle.std.proofs.Common.{◌<◌, ℕ, not, ◌&&◌, eqb, ap, sym, ◌∙◌, arith}
use Rattle.bolt_base.specs.Differs.{degree_changed}
use Rattle.bolt_base.specs.Graph.{Graph, vertices}
use Rattle.run_model.proofs.Still.{is_le, not_new}
use Rattle.refine_rows.proofs.dirty.has_other_degree.Goals as goal

pub returns-then-old_vertices-touched : goal.returns-then-old_vertices-touched
returns-then-old_vertices-touched g c =
    let was : Graph = g.O.OldGraph.graph in
    let now : Graph = g.A.Adjacency.plain c.args.graph.now in
    let olds = c.requires.old in
    sym (ap (λ b. not b && degree_changed was now c.args.touched.vertex)
    (is_le (vertices was) c.args.touched.vertex (omega arith)))

pub returns : goal.returns
returns g c =
    let was : Graph = g.O.OldGraph.graph in
    let now : Graph = g.A.Adjacency.plain c.args.graph.now in
    let u : ℕ = c.args.touched.vertex in
    let olds = c.requires.old in
    let there : u < vertices was = omega arith in
    (λ j. not (eqb (c.requires.degree j) (c.out_degree.ensures j)))
    ∙ sym (ap (λ n. not n && degree_changed was now u) (not_new (vertices was) u there))
