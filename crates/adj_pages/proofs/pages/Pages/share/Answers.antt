use Rattle.std.proofs.Common.{◌≡◌, ap, sym, ◌∙◌, length, arith}
use Rattle.std.specs.FinMap as finite
use Rattle.std.specs.Arc.{arc_value}
use Rattle.std.proofs.lemmas.List.{length-map}
use Rattle.adjacency.specs.Row.{end_at}
use Rattle.adj_pages.specs.Index.{Mark, mark_at}
use Rattle.adj_pages.specs.Marked.{mark, marks}
use Rattle.adj_pages.proofs.IndexLemmas.{at_place}
use Rattle.adj_pages.proofs.MarkLemmas.{mark_read}
use Rattle.adj_pages.proofs.pages.Pages.share.Goals as goal

pub push-requires-clause-some : goal.push-requires-clause-some
push-requires-clause-some g c =
    let ms = marks g.P.Page.arcs c.args.index.now in
    let here = at_place ms c.args.count c.requires.index c.args.i
    (omega (arith, c.requires.inside, length-map c.args.index.now (mark g.P.Page.arcs))) in
    omega (arith, here.some, c.size_at-size.ensures)

pub push-requires-clause-first : goal.push-requires-clause-first
push-requires-clause-first g c =
    let ms = marks g.P.Page.arcs c.args.index.now in
    let here = at_place ms c.args.count c.requires.index c.args.i
    (omega (arith, c.requires.inside, length-map c.args.index.now (mark g.P.Page.arcs))) in
    c.first_at-first.ensures ∙ here.first
    ∙ ap (λ (m : Mark). end_at (finite.entries m.arcs) 0)
    (mark_read g.P.Page.arcs c.args.index.now c.args.i c.index-index-i.result
    c.requires.inside)
    ∙ ap (λ v. end_at (finite.entries (g.P.Page.arcs v)) 0) (sym c.in_ok-part.ensures)
