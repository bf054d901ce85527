use Rattle.std.proofs.Common.{◌++◌, map, ap, sym, ◌∙◌, subst}
use Rattle.adjacency.specs.Row.{IsRow}
use Rattle.adj_pages.specs.Index.{joined}
use Rattle.adj_pages.proofs.IndexLemmas.{no_entries}
use Rattle.adj_pages.proofs.pages.Pages.of_pages.Goals as goal

pub push_pages-requires-clause-rising : goal.push_pages-requires-clause-rising
push_pages-requires-clause-rising g c = subst
    (λ xs. IsRow (xs ++ joined (map g.P.Page.arcs c.args.pages.items)))
    (sym (no_entries c.new-made.result c.new-made.ensures)) c.requires.rising

pub returns : goal.returns
returns g c = c.in_ok-push_pages.ensures
    ∙ ap (λ xs. xs ++ joined (map g.P.Page.arcs c.args.pages.items))
    (no_entries c.new-made.result c.new-made.ensures)
