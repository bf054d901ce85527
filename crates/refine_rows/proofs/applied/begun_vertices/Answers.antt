use Rattle.std.proofs.Common.{◌-◌, ◌≤◌, map, ap, ◌∙◌, arith}
use Rattle.std.specs.List.{range_with_len}
use Rattle.bolt_base.specs.Differs.{attr_changed, is_new}
use Rattle.bolt_base.specs.Graph.{Graph, vertices}
use Rattle.bolt_base.specs.declared.edge.AttrChange.{AttrChange}
use Rattle.vertex_expr.specs.declared.program.ProgramEntries.{ProgramEntries}
use Rattle.refine_rows.specs.Picked.{old_only}
use Rattle.refine_rows.proofs.AgainLemmas.{attrs_are, begun_where}
use Rattle.refine_rows.proofs.PickLemmas.{where_new, where_old}
use Rattle.refine_rows.proofs.applied.begun_vertices.Goals as goal

pub new_vertices-requires : goal.new_vertices-requires
new_vertices-requires g c =
    let olds = c.requires.net.is_old_vertices in
    let count = c.vertices.ensures in
    let more = c.requires.over.more in
    omega arith

pub returns : goal.returns
returns g c =
    let p : ProgramEntries = c.args.program.now in
    let was : Graph = g.O.OldGraph.graph in
    let now : Graph = g.A.Adjacency.plain c.args.graph.now in
    let more : vertices was ≤ vertices now = c.requires.over.more in
    let attrs = c.in_ok-attrs.ensures
    ∙ ap (map (λ (a : AttrChange). a.vertex)) c.requires.net.is_attrs
    ∙ attrs_are was now ∙ where_old was (vertices now) more (attr_changed was now) in
    let new = c.in_ok-new.ensures
    ∙ (λ j. range_with_len (c.requires.net.is_old_vertices j)
    (c.vertices.ensures j - c.requires.net.is_old_vertices j))
    ∙ where_new was (vertices now) more in
    c.in_ok-begun.ensures.all (vertices now) (old_only was (attr_changed was now)) (is_new was)
    (c.deref.ensures.value ∙ attrs) (c.deref-2.ensures.value ∙ new)
    ∙ begun_where p was now
