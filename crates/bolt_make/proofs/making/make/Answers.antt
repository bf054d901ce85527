use Rattle.std.proofs.Common.{◌≡◌, List, length, sym, ap, ◌∙◌, subst}
use Rattle.std.specs.List.{All}
use Rattle.bolt_base.specs.Graph.{IsGood}
use Rattle.bolt_base.specs.declared.edge.Edit.{Edit}
use Rattle.bolt_make.specs.Draws.{drawn_pairs}
use Rattle.bolt_make.specs.Generator.{joined, made_pairs, made_graph}
use Rattle.bolt_make.proofs.EditLemmas.{batches_have_size}
use Rattle.bolt_make.proofs.MadeLemmas.{made_good, made_graph_made}
use Rattle.bolt_make.proofs.making.make.Goals as goal

pub returns-clause-good : goal.returns-clause-good
returns-clause-good c = λ l wide.
    let seed = c.args.seed in
    let n = c.args.vertices in
    let count = c.args.pairs in
    let pairs : c.deref.result.now ≡ made_pairs seed n count =
    c.deref.ensures.value ∙ c.in_ok-drawn.ensures.pairs
    ∙ ap (drawn_pairs n count) c.new-draws.ensures in
    let graph : c.in_ok-plain.plain ≡ made_graph seed n count =
    c.in_ok-plain.ensures ∙ c.in_ok-join_all.ensures
    ∙ (λ j. joined (c.new-graph.ensures j) (pairs j)) in
    subst (IsGood l) (sym graph)
    (made_good l n count (made_graph seed n count) wide
    (made_graph_made seed n count c.requires.vertices.0))

pub returns-clause-sizes : goal.returns-clause-sizes
returns-clause-sizes c =
    subst (λ (bs : List (List Edit)). All (λ (b : List Edit). length b ≡ c.args.edits) bs)
    (sym c.in_ok-batches.ensures)
    (batches_have_size c.args.vertices c.deref-2.result.now c.args.edits c.args.batches _ _)
