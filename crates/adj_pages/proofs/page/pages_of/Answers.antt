use Rattle.std.proofs.Common.{sym, subst}
use Rattle.std.specs.FinMap as finite
use Rattle.adjacency.specs.Row.{IsRow}
use Rattle.adj_pages.proofs.page.pages_of.Goals as goal

pub cut-requires-clause-row : goal.cut-requires-clause-row
cut-requires-clause-row c = subst IsRow (sym c.arcs.ensures)
    (record { rising = finite.entries_sorted c.args.row })

pub cut-requires-then-count-gt-PAGE_ARCS-clause-row :
    goal.cut-requires-then-count-gt-PAGE_ARCS-clause-row
cut-requires-then-count-gt-PAGE_ARCS-clause-row c = subst IsRow
    (sym c.arcs-then-count-gt-PAGE_ARCS.ensures)
    (record { rising = finite.entries_sorted c.args.row })
