use Rattle.std.proofs.Common.{◌∙◌, sym, ap}
use Rattle.std.specs.List.{list_any}
use Rattle.std.proofs.lemmas.List.{take_all}
use Rattle.std.proofs.lemmas.List.Folds.{list_any_at}
use Rattle.vertex_expr.specs.Mentions.{mentions_outdeg}
use Rattle.vertex_expr.specs.Node.{tree_of}
use Rattle.vertex_expr.specs.declared.program.ProgramEntries.{ProgramEntries}
use Rattle.edge_map.proofs.Sources.{any-map}
use Rattle.core_adds.proofs.dirty.reads_outdeg.Goals as goal

pub returns-then-mentions_outdeg : goal.returns-then-mentions_outdeg
returns-then-mentions_outdeg c =
    let xs = c.as_slice-expr-items.result.now in
    let here = c.if-mentions_outdeg.ensures.answer
    ∙ ap (λ e. mentions_outdeg (tree_of e)) c.expr-item.is in
    let there = list_any_at (λ e. mentions_outdeg (tree_of e)) xs c.loop-expr.expr-index
    c.expr-item.result c.loop-expr-test.true (sym here) in
    sym there ∙ sym (any-map mentions_outdeg tree_of xs)
    ∙ ap (list_any mentions_outdeg) c.as_slice-expr-items.ensures.trees
    ∙ ap (λ (x : ProgramEntries). list_any mentions_outdeg x.contribute) c.entries.ensures.entries

pub returns : goal.returns
returns c =
    let xs = c.as_slice-expr-items.result.now in
    sym c.loop-expr.invariant ∙ ap (list_any (λ e. mentions_outdeg (tree_of e)))
    (take_all c.loop-expr.expr-index xs c.loop-expr-test.false)
    ∙ sym (any-map mentions_outdeg tree_of xs)
    ∙ ap (list_any mentions_outdeg) c.as_slice-expr-items.ensures.trees
    ∙ ap (λ (x : ProgramEntries). list_any mentions_outdeg x.contribute) c.entries.ensures.entries
