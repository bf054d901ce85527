use Rattle.std.proofs.Common.{ap, ◌∙◌}
use Rattle.std.specs.FinMap as finite
use Rattle.std.proofs.lemmas.List.{map-id}
use Rattle.adj_pages.specs.Index.{joined}
use Rattle.adj_pages.proofs.PageLemmas.{entries_patched}
use Rattle.adj_pages.proofs.page.RowPage.edited.Goals as goal

pub returns-clause-arcs : goal.returns-clause-arcs
returns-clause-arcs c = ap joined (map-id c.in_ok-pages.pages.items) ∙ c.in_ok-pages.ensures.arcs
    ∙ ap finite.entries c.in_ok-row.ensures ∙ entries_patched c.args.self.now c.args.edits.now
