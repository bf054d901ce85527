use Rattle.std.proofs.Common.{◌||◌, ℕ, ◌∙◌}
use Rattle.bolt_base.specs.Graph.{Graph, vertices}
use Rattle.vertex_expr.specs.declared.program.ProgramEntries.{ProgramEntries}
use Rattle.run_model.specs.Refined.{is_again}
use Rattle.run_model.specs.Steps.{is_target, step, value_changed}
use Rattle.refine_rows.specs.Picked.{old_only}
use Rattle.refine_rows.proofs.AgainLemmas.{applied_where}
use Rattle.refine_rows.proofs.PickLemmas.{where_old}
use Rattle.refine_rows.proofs.applied.applied_vertices.Goals as goal

pub returns : goal.returns
returns g c =
    let p : ProgramEntries = c.args.program.now in
    let was : Graph = g.O.OldGraph.graph in
    let now : Graph = g.A.Adjacency.plain c.args.graph.now in
    let i : ℕ = c.args.i in
    let changed = c.requires.changed
    ∙ where_old was (vertices now) c.requires.change.over.more (value_changed (step p was now i)) in
    let moved = c.in_ok-moved.ensures.all (vertices now) (is_target p (step p was now i))
    (old_only was (value_changed (step p was now i))) c.requires.targets changed in
    c.in_ok-applied.ensures.all (vertices now)
    (λ v. is_target p (step p was now i) v || old_only was (value_changed (step p was now i)) v)
    (is_again p was now 0)
    (c.deref.ensures.value ∙ moved) (c.deref-2.ensures.value ∙ c.in_ok-begun.ensures)
    ∙ applied_where p was now i c.requires.some
