use Rattle.std.proofs.Common.{◌≡◌, ◌++◌, ap, sym, ◌∙◌, arith}
use Rattle.std.specs.FinMap as finite
use Rattle.std.proofs.lemmas.List.{append-nil}
use Rattle.adj_pages.specs.Index.{joined}
use Rattle.adj_pages.proofs.IndexLemmas.{no_entries}
use Rattle.adj_pages.proofs.pages.patches.close_full.Goals as goal

pub returns-in_ok-push_some-clause-arcs : goal.returns-in_ok-push_some-clause-arcs
returns-in_ok-push_some-clause-arcs g c =
    let old = joined c.args.done.now.items in
    let same : c.replace-full.result
    ≡ c.args.last.now = grind (arith, c.replace-full.ensures.value, c.last.view_is) in
    ap (λ xs. xs ++ finite.entries c.replace-full.new.dest) c.in_ok-push_some.ensures.arcs
    ∙ ap (λ xs. (old ++ finite.entries c.replace-full.result) ++ xs)
    (ap finite.entries c.replace-full.ensures.after ∙ no_entries c.new.result c.new.ensures)
    ∙ append-nil (old ++ finite.entries c.replace-full.result)
    ∙ ap (λ r. old ++ finite.entries r) same
