use Rattle.std.proofs.Common.{List, length, ◌∙◌, ap, sym}
use Rattle.vertex_expr.specs.Writable.{scope_in}
use Rattle.vertex_expr.specs.declared.expr.Part.TheVariants.{Init, Contribute, Apply}
use Rattle.vertex_expr.specs.declared.program.NamedParam.{NamedParam}
use Rattle.vertex_lang.proofs.Printed.{trees_below, length-names}
use Rattle.vertex_lang.proofs.canonical.print_entries.Goals as goal

pub append_trees-requires-clause-named : goal.append_trees-requires-clause-named
append_trees-requires-clause-named c =
    let g = c.args.entries.now in
    trees_below (scope_in g Init) g.init c.as_slice-2.result.now
    (length c.as_slice-params.result.now) c.requires.init c.as_slice-2.ensures.trees
    (length-names g.params ∙ ap (λ (ps : List NamedParam). length ps)
    (sym c.as_slice-params.ensures))

pub append_trees-requires-2-clause-named : goal.append_trees-requires-2-clause-named
append_trees-requires-2-clause-named c =
    let g = c.args.entries.now in
    trees_below (scope_in g Contribute) g.contribute c.as_slice-3.result.now
    (length c.as_slice-params.result.now) c.requires.contribute c.as_slice-3.ensures.trees
    (length-names g.params ∙ ap (λ (ps : List NamedParam). length ps)
    (sym c.as_slice-params.ensures))

pub append_trees-requires-3-clause-named : goal.append_trees-requires-3-clause-named
append_trees-requires-3-clause-named c =
    let g = c.args.entries.now in
    trees_below (scope_in g Apply) g.apply c.as_slice-4.result.now
    (length c.as_slice-params.result.now) c.requires.apply c.as_slice-4.ensures.trees
    (length-names g.params ∙ ap (λ (ps : List NamedParam). length ps)
    (sym c.as_slice-params.ensures))
