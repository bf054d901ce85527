use Rattle.std.proofs.Common.{map, ap, sym, ◌∙◌}
use Rattle.bolt_base.specs.Differs.{attr_changed}
use Rattle.bolt_base.specs.Graph.{Graph, vertices}
use Rattle.bolt_base.specs.declared.edge.AttrChange.{AttrChange}
use Rattle.run_model.specs.Steps.{reads_attr}
use Rattle.refine_rows.proofs.AgainLemmas.{attrs_are}
use Rattle.refine_rows.proofs.PickLemmas.{read_where, unread_where}
use Rattle.refine_rows.proofs.dirty.attr_changes.Goals as goal

pub returns-then-not-reads_attr : goal.returns-then-not-reads_attr
returns-then-not-reads_attr g c =
    let was : Graph = g.O.OldGraph.graph in
    let now : Graph = g.A.Adjacency.plain c.args.graph.now in
    c.new.ensures.items
    ∙ sym (unread_where (vertices was) (attr_changed was now) (reads_attr c.args.program.now)
    (sym c.reads_attr.ensures ∙ c.if-not-reads_attr.true))

pub returns : goal.returns
returns g c =
    let was : Graph = g.O.OldGraph.graph in
    let now : Graph = g.A.Adjacency.plain c.args.graph.now in
    c.in_ok-us.ensures
    ∙ ap (map (λ (a : AttrChange). a.vertex)) c.requires.net.is_attrs
    ∙ attrs_are was now
    ∙ sym (read_where (vertices was) (attr_changed was now) (reads_attr c.args.program.now)
    (sym c.reads_attr.ensures ∙ c.if-not-reads_attr.false))
