use Rattle.std.proofs.Common.{◌||◌, ◌&&◌, ◌∙◌}
use Rattle.bolt_base.specs.Differs.{attr_changed, degree_changed}
use Rattle.bolt_base.specs.Graph.{Graph, vertices}
use Rattle.vertex_expr.specs.declared.program.ProgramEntries.{ProgramEntries}
use Rattle.run_model.specs.Steps.{reads_attr, reads_outdeg, step, value_changed}
use Rattle.refine_rows.proofs.AgainLemmas.{dirty_where}
use Rattle.refine_rows.proofs.dirty.dirty_vertices.Goals as goal

pub returns : goal.returns
returns g c =
    let p : ProgramEntries = c.args.program.now in
    let was : Graph = g.O.OldGraph.graph in
    let now : Graph = g.A.Adjacency.plain c.args.graph.now in
    let moved = c.in_ok-moved.ensures.all (vertices was) (value_changed (step p was now c.args.i))
    (λ u. degree_changed was now u && reads_outdeg p) c.requires.changed
    (c.deref.ensures.value ∙ c.in_ok-degrees.ensures) in
    c.in_ok-dirty.ensures.all (vertices was)
    (λ u. value_changed (step p was now c.args.i) u || (degree_changed was now u && reads_outdeg p))
    (λ u. attr_changed was now u && reads_attr p)
    (c.deref-2.ensures.value ∙ moved) (c.deref-3.ensures.value ∙ c.in_ok-attrs.ensures)
    ∙ dirty_where p was now c.args.i
