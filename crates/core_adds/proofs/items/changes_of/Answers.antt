use Rattle.std.proofs.Common.{sym, subst}
use Rattle.std.specs.List.{All}
use Rattle.bolt_base.specs.Graph.{Graph}
use Rattle.vertex_expr.specs.declared.program.ProgramEntries.{ProgramEntries}
use Rattle.run_model.specs.Given.{IsEdge}
use Rattle.core_adds.proofs.ItemAdds.{stayed_had, stayed_has}
use Rattle.core_adds.proofs.items.changes_of.Goals as goal

pub push_change-requires-clause-had : goal.push_change-requires-clause-had
push_change-requires-clause-had g c =
    let p : ProgramEntries = c.args.program.now in
    let before : Graph = g.A.Adjacency.plain c.args.old.now in
    let after : Graph = g.A.Adjacency.plain c.args.new.now in
    subst (All (IsEdge p before)) (sym c.requires.edges)
    (stayed_had p before after c.args.was.now c.requires.sides.old)
    c.loop-e.e-index _ c.loop-e-test.true

pub push_change-requires-clause-has : goal.push_change-requires-clause-has
push_change-requires-clause-has g c =
    let p : ProgramEntries = c.args.program.now in
    let before : Graph = g.A.Adjacency.plain c.args.old.now in
    let after : Graph = g.A.Adjacency.plain c.args.new.now in
    subst (All (IsEdge p after)) (sym c.requires.edges)
    (stayed_has p before after c.args.now.now c.requires.sides.new)
    c.loop-e.e-index _ c.loop-e-test.true
