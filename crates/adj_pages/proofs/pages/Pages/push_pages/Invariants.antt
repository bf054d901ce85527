use Rattle.std.proofs.Common.{◌≡◌, ◌<◌, ◌++◌, map}
use Rattle.std.specs.List.{All}
use Rattle.std.specs.FinMap as finite
use Rattle.adjacency.specs.Row.{IsRow}
use Rattle.adj_pages.specs.Index.{joined}
use Rattle.adj_pages.proofs.pages.Pages.push_pages.Given as goal

abbrev pub invariant-loop-page : goal.invariant-loop-page
invariant-loop-page g l = record {
  whole : finite.entries l.self ++ joined (map g.P.Page.arcs l.page-iterator.rest.items)
      ≡ finite.entries l.initial.self
      ++ joined (map g.P.Page.arcs l.initial.page-iterator.rest.items);
  some : All (λ p. 0 < finite.len (g.P.Page.arcs p)) l.page-iterator.rest.items;
  rising : IsRow (finite.entries l.self ++ joined (map g.P.Page.arcs l.page-iterator.rest.items));
}
