use Rattle.std.proofs.Common.{◌≡◌, ◌<◌, ◌++◌, ◌∷◌, T, map, ap, sym, ◌∙◌, subst, append_assoc}
use Rattle.std.specs.Ordering.{nat_cmp}
use Rattle.std.specs.List.{All}
use Rattle.std.specs.FinMap as finite
use Rattle.std.specs.FinMap.{is_sorted}
use Rattle.std.proofs.lemmas.List.Elements.{All-tail}
use Rattle.adjacency.specs.Row.{IsRow}
use Rattle.adj_pages.specs.Index.{joined}
use Rattle.adj_pages.proofs.SortedLemmas.{sorted_prefix}
use Rattle.adj_pages.proofs.pages.Pages.push_pages.Goals as goal

pub push_page-requires-clause-rising : goal.push_page-requires-clause-rising
push_page-requires-clause-rising g c =
    let rest = joined (map g.P.Page.arcs c.next.new.self.rest.items) in
    let page = finite.entries (g.P.Page.arcs c.in-Some.page) in
    let all : finite.entries c.loop-page.self
    ++ joined (map g.P.Page.arcs c.loop-page.page-iterator.rest.items)
    ≡ (finite.entries c.loop-page.self ++ page) ++ rest =
    ap (λ ps. finite.entries c.loop-page.self ++ joined (map g.P.Page.arcs ps))
    c.in-Some.ensures.steps.0 ∙ sym (append_assoc (finite.entries c.loop-page.self) page rest)
    in
    record {
      rising = sorted_prefix (finite.entries c.loop-page.self ++ page) rest
          (subst (λ xs. T (is_sorted nat_cmp xs)) all c.loop-page.invariant.rising.rising);
    }

pub loop-page-preserved : goal.loop-page-preserved
loop-page-preserved g c =
    let rest = joined (map g.P.Page.arcs c.next.new.self.rest.items) in
    let page = finite.entries (g.P.Page.arcs c.in-Some.page) in
    let all : finite.entries c.loop-page.self
    ++ joined (map g.P.Page.arcs c.loop-page.page-iterator.rest.items)
    ≡ finite.entries c.push_page.new.self ++ rest =
    ap (λ ps. finite.entries c.loop-page.self ++ joined (map g.P.Page.arcs ps))
    c.in-Some.ensures.steps.0 ∙ sym (append_assoc (finite.entries c.loop-page.self) page rest)
    ∙ ap (λ xs. xs ++ rest) (sym c.in_ok-push_page.ensures) in
    record {
      whole = sym all ∙ c.loop-page.invariant.whole;
      some = All-tail (λ p. 0 < finite.len (g.P.Page.arcs p)) c.in-Some.page
          c.next.new.self.rest.items
          (subst (λ ps. All (λ p. 0 < finite.len (g.P.Page.arcs p)) ps)
          c.in-Some.ensures.steps.0 c.loop-page.invariant.some);
      rising = subst IsRow all c.loop-page.invariant.rising;
    }
