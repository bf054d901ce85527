use Rattle.std.proofs.Common.{◌≡◌, ◌++◌, ◌+◌, refl, ap, sym, ◌∙◌, arith, subst, length}
use Rattle.std.specs.FinMap as finite
use Rattle.std.specs.Arc.{arc_value}
use Rattle.adjacency.specs.Row.{row_map, IsRow}
use Rattle.adj_pages.specs.Index.{Mark, marked, IsIndex, IsPlaced}
use Rattle.adj_pages.specs.Marked.{mark, marks}
use Rattle.adj_pages.proofs.IndexLemmas.{index_push, index_entries, index_pushed}
use Rattle.adj_pages.proofs.MarkLemmas.{marks_push}
use Rattle.adj_pages.proofs.pages.Pages.push.Goals as goal

pub invariant_of-self-in-Some : goal.invariant_of-self-in-Some
invariant_of-self-in-Some g c =
    let ms = marks g.P.Page.arcs c.self.inside.index.items in
    let m : Mark = record {
      first = c.args.first;
      before = c.self.inside.count;
      arcs =
          g.P.Page.arcs (arc_value c.args.part);
    } in
    let placed : IsPlaced c.self.inside.count m = record {
      some = omega (arith, c.requires.some, c.requires.count);
      before = refl;
      first =
          c.requires.first;
    } in
    let row : IsRow (marked ms ++ finite.entries m.arcs) = subst
    (λ xs. IsRow (xs ++ finite.entries m.arcs))
    (ap finite.entries (sym c.self.view_is)
    ∙ index_entries ms c.self.inside.count c.self.invariant) c.requires.rising in
    subst (λ xs. IsIndex xs c.in-Some.total)
    (sym (ap (marks g.P.Page.arcs) c.in_ok-push-in-Some.ensures.items
    ∙ marks_push g.P.Page.arcs c.self.inside.index.items
    (record {
      first = c.args.first;
      before = c.self.inside.count;
      part = c.args.part;
    })))
    (index_push ms c.self.inside.count m c.in-Some.total c.self.invariant placed row
    (c.in-Some.ensures.1 ∙ ap (λ k. c.self.inside.count + k) c.requires.count))

pub returns-in_ok-push-in-Some-clause-ok : goal.returns-in_ok-push-in-Some-clause-ok
returns-in_ok-push-in-Some-clause-ok g c =
    let ms = marks g.P.Page.arcs c.self.inside.index.items in
    let m : Mark = record {
      first = c.args.first;
      before = c.self.inside.count;
      arcs =
          g.P.Page.arcs (arc_value c.args.part);
    } in
    let placed : IsPlaced c.self.inside.count m = record {
      some = omega (arith, c.requires.some, c.requires.count);
      before = refl;
      first =
          c.requires.first;
    } in
    let row : IsRow (marked ms ++ finite.entries m.arcs) = subst
    (λ xs. IsRow (xs ++ finite.entries m.arcs))
    (ap finite.entries (sym c.self.view_is)
    ∙ index_entries ms c.self.inside.count c.self.invariant) c.requires.rising in
    ap (λ xs. finite.entries (row_map (marked xs)))
    (ap (marks g.P.Page.arcs) c.in_ok-push-in-Some.ensures.items
    ∙ marks_push g.P.Page.arcs c.self.inside.index.items
    (record { first = c.args.first; before = c.self.inside.count; part = c.args.part }))
    ∙ index_pushed ms c.self.inside.count m c.in-Some.total c.self.invariant placed row
    (c.in-Some.ensures.1 ∙ ap (λ k. c.self.inside.count + k) c.requires.count)
    ∙ ap (λ r. finite.entries r ++ finite.entries m.arcs) c.self.view_is
