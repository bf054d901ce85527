use Rattle.std.proofs.Common.{◌≡◌, ◌<◌, ◌-◌, ap, sym, ◌∙◌, length, arith, subst}
use Rattle.std.proofs.lemmas.List.{length-map}
use Rattle.std.specs.FinMap as finite
use Rattle.std.specs.List.{slice_get}
use Rattle.adj_pages.specs.Index.{Mark, mark_at, IsPlaceOf}
use Rattle.adj_pages.specs.Marked.{mark, marks}
use Rattle.adj_pages.proofs.IndexLemmas.{begins, some_page, len_index, place_inside, place_gives}
use Rattle.adj_pages.proofs.pages.Pages.at_near.Goals as goal

pub place_near-i-requires-clause-some : goal.place_near-i-requires-clause-some
place_near-i-requires-clause-some g c =
    let items = c.self.inside.index.items in
    let more = some_page (marks g.P.Page.arcs items) c.self.inside.count c.self.invariant
    (omega (
      arith,
      c.requires,
      len_index (marks g.P.Page.arcs items) c.self.inside.count
          c.self.invariant,
      ap finite.len c.self.view_is,
    )) in
    omega (arith, more, length-map items (mark g.P.Page.arcs), ap length c.deref.ensures.value)

pub at_near-inner-requires : goal.at_near-inner-requires
at_near-inner-requires g c =
    let ms = marks g.P.Page.arcs c.self.inside.index.items in
    let i = c.place_near-i.result in
    let at_i : IsPlaceOf ms c.args.k i = subst
    (λ es. IsPlaceOf (marks g.P.Page.arcs es) c.args.k i) c.deref.ensures.value
    c.place_near-i.ensures in
    let inside = place_inside ms c.self.inside.count c.self.invariant c.args.k i
    (omega (
      arith,
      c.requires,
      len_index ms c.self.inside.count c.self.invariant,
      ap finite.len
          c.self.view_is,
    )) at_i in
    let b = ap (λ es. (mark_at (marks g.P.Page.arcs es) i).before) c.deref-2.ensures.value in
    let a = ap (λ es. finite.len (mark_at (marks g.P.Page.arcs es) i).arcs) c.deref-3.ensures.value
    in
    omega (arith, inside, c.before_at-before.ensures, b, ap finite.len c.page_at.ensures, a)

pub returns : goal.returns
returns g c =
    let ms = marks g.P.Page.arcs c.self.inside.index.items in
    let i = c.place_near-i.result in
    let at_i : IsPlaceOf ms c.args.k i = subst
    (λ es. IsPlaceOf (marks g.P.Page.arcs es) c.args.k i) c.deref.ensures.value
    c.place_near-i.ensures in
    let gives = place_gives ms c.self.inside.count c.self.invariant c.args.k i
    (omega (
      arith,
      c.requires,
      len_index ms c.self.inside.count c.self.invariant,
      ap finite.len
          c.self.view_is,
    )) at_i in
    ap (λ m. slice_get (finite.entries m) c.args.k) (sym c.self.view_is) ∙ gives
    ∙ ap (λ m. slice_get (finite.entries m) (c.args.k - (mark_at ms i).before))
    (sym (c.page_at.ensures ∙ ap (λ es. (mark_at (marks g.P.Page.arcs es) i).arcs)
    c.deref-3.ensures.value))
    ∙ ap (λ b. slice_get (finite.entries (g.P.Page.arcs c.page_at.result.now)) (c.args.k - b))
    (sym (c.before_at-before.ensures
    ∙ ap (λ es. (mark_at (marks g.P.Page.arcs es) i).before) c.deref-2.ensures.value))
    ∙ c.at_near-inner.ensures
