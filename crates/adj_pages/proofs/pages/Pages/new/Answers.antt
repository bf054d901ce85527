use Rattle.std.proofs.Common.{ap, ◌∙◌}
use Rattle.adjacency.specs.Row.{row_map}
use Rattle.adjacency.proofs.RowLemmas.{map_nil}
use Rattle.adj_pages.specs.Index.{marked}
use Rattle.adj_pages.specs.Marked.{marks}
use Rattle.adj_pages.proofs.pages.Pages.new.Goals as goal

pub returns : goal.returns
returns g c = ap (λ es. row_map (marked (marks g.P.Page.arcs es))) c.new.ensures.items ∙ map_nil
