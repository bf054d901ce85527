use Rattle.std.proofs.Common.{◌∙◌}
use Rattle.bolt_base.specs.Graph.{Graph}
use Rattle.bolt_base.specs.declared.edge.Touched.{Touched}
use Rattle.refine_tasks.proofs.SourceLemmas.{degree_absent, degree_found}
use Rattle.refine_tasks.proofs.before.old_degree.Goals as goal

pub returns-in-Ok : goal.returns-in-Ok
returns-in-Ok g c =
    let was : Graph = g.O.OldGraph.graph in
    let now : Graph = g.A.Adjacency.plain c.args.graph.now in
    let none : Touched = record { vertex = 0; old_degree = 0 } in
    degree_found was now c.as_slice-touched.result.now
    (c.as_slice-touched.ensures ∙ c.requires.net.is_sources) c.args.u c.in-Ok.place none
    c.in-Ok.ensures.found

pub returns-in-Err : goal.returns-in-Err
returns-in-Err g c =
    let was : Graph = g.O.OldGraph.graph in
    let now : Graph = g.A.Adjacency.plain c.args.graph.now in
    c.out_degree.ensures
    ∙ degree_absent was now c.as_slice-touched.result.now
    (c.as_slice-touched.ensures ∙ c.requires.net.is_sources) c.args.u c.requires.vertex
    c.in-Err.ensures.absent
