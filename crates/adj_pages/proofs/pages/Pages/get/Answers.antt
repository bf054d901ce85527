use Rattle.std.proofs.Common.{ap, sym, ◌∙◌, subst, length, arith, zero}
use Rattle.std.specs.Ordering.{nat_cmp}
use Rattle.std.specs.FinMap as finite
use Rattle.std.proofs.lemmas.List.{length-map}
use Rattle.std.proofs.lemmas.Bool.{cases_lt}
use Rattle.adj_pages.specs.Index.{mark_at, IsPlaceFor}
use Rattle.adj_pages.specs.Marked.{mark, marks}
use Rattle.adj_pages.proofs.IndexLemmas.{len_index, some_page, place_finds, nothing_there}
use Rattle.adj_pages.proofs.pages.Pages.get.Goals as goal

pub returns-then-self-eq0 : goal.returns-then-self-eq0
returns-then-self-eq0 g c = nothing_there c.args.self.now c.args.end
    (sym (ap finite.len c.self.view_is)
    ∙ len_index (marks g.P.Page.arcs c.self.inside.index.items) c.self.inside.count
    c.self.invariant ∙ c.if-self-eq0.true)

pub place_for-i-requires : goal.place_for-i-requires
place_for-i-requires g c =
    let ms = marks g.P.Page.arcs c.self.inside.index.items in
    let more = some_page ms c.self.inside.count c.self.invariant
    (omega (arith, c.if-self-eq0.false)) in
    omega (
      arith,
      more,
      length-map c.self.inside.index.items (mark g.P.Page.arcs),
      ap length
          c.deref.ensures.value,
    )

pub returns-else-self-eq0 : goal.returns-else-self-eq0
returns-else-self-eq0 g c =
    let ms = marks g.P.Page.arcs c.self.inside.index.items in
    let i = c.place_for-i.result in
    let there : IsPlaceFor ms c.args.end i = subst
    (λ es. IsPlaceFor (marks g.P.Page.arcs es) c.args.end i) c.deref.ensures.value
    c.place_for-i.ensures in
    c.get.ensures ∙ ap (λ m. finite.get m c.args.end)
    (c.page_at.ensures ∙ ap (λ es. (mark_at (marks g.P.Page.arcs es) i).arcs)
    c.deref-else-self-eq0.ensures.value)
    ∙ sym (place_finds ms c.self.inside.count c.self.invariant c.args.end i there)
    ∙ ap (λ m. finite.get m c.args.end) c.self.view_is
