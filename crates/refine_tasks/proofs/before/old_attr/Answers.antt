use Rattle.std.proofs.Common.{rules, pos, get_or, FitsSigned, w64, ◌∙◌}
use Rattle.std.proofs.lemmas.Int.{to_z-of_z}
use Rattle.bolt_base.specs.Graph.{Graph}
use Rattle.bolt_base.specs.declared.edge.AttrChange.{AttrChange}
use Rattle.refine_tasks.proofs.SourceLemmas.{attr_absent, attr_found}
use Rattle.refine_tasks.proofs.before.old_attr.Goals as goal

pub returns-in-Ok : goal.returns-in-Ok
returns-in-Ok g c =
    let was : Graph = g.O.OldGraph.graph in
    let now : Graph = g.A.Adjacency.plain c.args.graph.now in
    let none : AttrChange = record { vertex = 0; old = pos 0; new = pos 0 } in
    let x : AttrChange = get_or c.as_slice-attrs.result.now c.in-Ok.place none in
    let fits : FitsSigned w64 x.old = search rules in
    to_z-of_z w64 x.old fits
    ∙ attr_found was now c.as_slice-attrs.result.now
    (c.as_slice-attrs.ensures ∙ c.requires.net.is_attrs) c.args.u c.in-Ok.place none
    c.in-Ok.ensures.found

pub returns-in-Err : goal.returns-in-Err
returns-in-Err g c =
    let was : Graph = g.O.OldGraph.graph in
    let now : Graph = g.A.Adjacency.plain c.args.graph.now in
    let fits : FitsSigned w64 c.attr.result = search rules in
    to_z-of_z w64 c.attr.result fits ∙ c.attr.ensures
    ∙ attr_absent was now c.as_slice-attrs.result.now
    (c.as_slice-attrs.ensures ∙ c.requires.net.is_attrs) c.args.u c.in-Err.ensures.absent
