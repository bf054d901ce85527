use Rattle.std.proofs.Common.{◌≡◌, ◌<◌, ◌≤◌, ◌+◌, ◌++◌, suc, T, length, take, ap, sym, ◌∙◌, subst}
use Rattle.std.proofs.Common.{arith, append_assoc}
use Rattle.std.specs.Ordering.{nat_cmp}
use Rattle.std.specs.List.{All}
use Rattle.std.specs.FinMap as finite
use Rattle.std.specs.FinMap.{is_sorted}
use Rattle.std.proofs.lemmas.List.{length-map, take_all}
use Rattle.std.proofs.lemmas.List.Elements.{All-nil}
use Rattle.adjacency.specs.Row.{IsRow}
use Rattle.adj_pages.specs.Index.{joined, marked, mark_at}
use Rattle.adj_pages.specs.Marked.{mark, marks}
use Rattle.adj_pages.proofs.SortedLemmas.{sorted_suffix}
use Rattle.adj_pages.proofs.IndexLemmas.{index_entries, marked_next, row_upto, no_entries}
use Rattle.adj_pages.proofs.pages.Pages.pieces.Goals as goal

pub loop-i-init : goal.loop-i-init
loop-i-init g c = record {
  whole = ap (λ xs. joined xs ++ finite.entries c.new-last.result) c.new-done.ensures.items
      ∙ no_entries c.new-last.result c.new-last.ensures;
  some = subst (λ xs. All (λ p. 0 < finite.len p) xs) (sym c.new-done.ensures.items)
      (All-nil (λ p. 0 < finite.len p));
}

pub share-requires-clause-rising : goal.share-requires-clause-rising
share-requires-clause-rising g c =
    let ms = marks g.P.Page.arcs c.self.inside.index.items in
    let i = c.loop-i.i in
    let l : i < length ms = omega (
      arith,
      length-map c.self.inside.index.items
          (mark g.P.Page.arcs),
      c.loop-i-test.true,
      c.len-i-end.ensures,
      c.self.inside.index.ok.0,
    ) in
    let done = joined c.close_full.new.done.items in
    let last = finite.entries c.close_full.new.last in
    let page = finite.entries (mark_at ms i).arcs in
    let e : marked (take (suc i) ms) ≡ done ++ (last ++ page) = marked_next ms i l
    ∙ ap (λ xs. xs ++ page) (sym (c.in_ok-close_full.ensures.arcs ∙ c.loop-i.invariant.whole))
    ∙ append_assoc done last page in
    subst (λ es. IsRow (last ++ finite.entries (mark_at (marks g.P.Page.arcs es) i).arcs))
    (sym c.deref.ensures.value)
    (record {
      rising = sorted_suffix done (last ++ page)
          (subst (λ xs. T (is_sorted nat_cmp xs)) e
          (row_upto ms c.self.inside.count c.self.invariant i l).rising);
    })

pub loop-i-preserved : goal.loop-i-preserved
loop-i-preserved g c =
    let ms = marks g.P.Page.arcs c.self.inside.index.items in
    let i = c.loop-i.i in
    let l : i < length ms = omega (
      arith,
      length-map c.self.inside.index.items
          (mark g.P.Page.arcs),
      c.loop-i-test.true,
      c.len-i-end.ensures,
      c.self.inside.index.ok.0,
    ) in
    let done = joined c.close_full.new.done.items in
    let last = finite.entries c.close_full.new.last in
    let page = finite.entries (mark_at ms i).arcs in
    record {
      whole =
          ap (λ xs. done ++ xs) (c.in_ok-share.ensures
          ∙ ap (λ es. last ++ finite.entries (mark_at (marks g.P.Page.arcs es) i).arcs)
          c.deref.ensures.value)
          ∙ sym (append_assoc done last page)
          ∙ ap (λ xs. xs ++ page) (c.in_ok-close_full.ensures.arcs ∙ c.loop-i.invariant.whole)
          ∙ sym (marked_next ms i l)
          ∙ ap (λ k. marked (take k ms)) (let f : suc i ≡ i + 1 = omega arith in f);
      some = c.in_ok-close_full.ensures.some;
    }

pub returns-clause-arcs : goal.returns-clause-arcs
returns-clause-arcs g c =
    let ms = marks g.P.Page.arcs c.self.inside.index.items in
    let end : length ms ≤ c.loop-i.i = omega (
      arith,
      length-map c.self.inside.index.items (mark g.P.Page.arcs),
      c.loop-i-test.false,
      c.len-i-end.ensures,
      c.self.inside.index.ok.0,
    ) in
    c.in_ok-push_some.ensures.arcs ∙ c.loop-i.invariant.whole
    ∙ ap marked (take_all c.loop-i.i ms end)
    ∙ sym (index_entries ms c.self.inside.count c.self.invariant)
    ∙ ap finite.entries c.self.view_is
