use Rattle.std.proofs.Common.{ap, sym, ◌∙◌}
use Rattle.std.specs.FinMap as finite
use Rattle.adj_pages.specs.Marked.{marks}
use Rattle.adj_pages.proofs.IndexLemmas.{len_index}
use Rattle.adj_pages.proofs.pages.Pages.len.Goals as goal

pub returns : goal.returns
returns g c = sym (len_index (marks g.P.Page.arcs c.self.inside.index.items) c.self.inside.count
    c.self.invariant) ∙ ap finite.len c.self.view_is
