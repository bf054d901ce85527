use Rattle.std.proofs.Common.{ap, arith}
use Rattle.std.specs.FinMap as finite
use Rattle.std.proofs.lemmas.List.{length-map}
use Rattle.adj_pages.specs.Marked.{mark, marks}
use Rattle.adj_pages.proofs.IndexLemmas.{at_place}
use Rattle.adj_pages.proofs.pages.Pages.add.Goals as goal

pub edited-requires-clause-held : goal.edited-requires-clause-held
edited-requires-clause-held g c =
    let here = at_place (marks g.P.Page.arcs c.args.index.now) c.args.count c.requires.index
    c.args.i (omega (
      arith,
      c.requires.inside,
      length-map c.args.index.now
          (mark g.P.Page.arcs),
    )) in
    omega (arith, here.some, ap finite.len c.page_at.ensures)
