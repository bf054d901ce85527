use Rattle.std.proofs.Common.{ap, sym, ◌∙◌, subst}
use Rattle.std.specs.FinMap as finite
use Rattle.std.proofs.lemmas.List.{map-id}
use Rattle.adjacency.specs.Row.{IsRow}
use Rattle.adj_pages.specs.Index.{joined}
use Rattle.adj_pages.proofs.PageLemmas.{same_arcs}
use Rattle.adj_pages.proofs.paged_row.lists_of.Goals as goal

pub of_pages-requires-clause-rising : goal.of_pages-requires-clause-rising
of_pages-requires-clause-rising c = subst IsRow
    (sym (ap joined (map-id c.in_ok-rows.rows.items) ∙ c.in_ok-rows.ensures.arcs))
    (record { rising = finite.entries_sorted c.args.row })

pub of_pages-requires-2-clause-rising : goal.of_pages-requires-2-clause-rising
of_pages-requires-2-clause-rising c = subst IsRow
    (sym (ap joined (map-id c.in_ok-lists.lists.items) ∙ c.in_ok-lists.ensures.arcs))
    (record { rising = finite.entries_sorted c.in_ok-pages.pages })

pub returns : goal.returns
returns c = same_arcs c.in_ok-all.all c.args.row (
    c.in_ok-all.ensures ∙ ap joined (map-id c.in_ok-lists.lists.items) ∙ c.in_ok-lists.ensures.arcs
    ∙ c.in_ok-pages.ensures ∙ ap joined (map-id c.in_ok-rows.rows.items)
    ∙ c.in_ok-rows.ensures.arcs)
