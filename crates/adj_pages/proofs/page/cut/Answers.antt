use Rattle.std.proofs.Common.{◌≡◌, ◌<◌, ◌≤◌, ◌+◌, ℕ, ap, sym, ◌∙◌, subst, arith, length}
use Rattle.std.specs.List.{All}
use Rattle.std.specs.FinMap as finite
use Rattle.std.proofs.lemmas.List.Elements.{All-push}
use Rattle.adjacency.specs.Row.{RowMap, IsRow, row_map}
use Rattle.adj_pages.specs.Index.{joined}
use Rattle.adj_pages.proofs.PageLemmas.{page_row, cut_page, cut_some}
use Rattle.adj_pages.proofs.page.cut.Goals as goal

pub from_arcs-requires : goal.from_arcs-requires
from_arcs-requires c = subst IsRow (sym c.in_ok-page.ensures.items)
    (page_row c.args.arcs.now c.requires.row c.loop-from.from (c.loop-from.from + c.min.result))

pub loop-from-preserved : goal.loop-from-preserved
loop-from-preserved c =
    let arcs = c.args.arcs.now in
    let from = c.loop-from.from in
    let upto : ℕ = c.loop-from.from + c.min.result in
    let e = c.from_arcs.ensures ∙ ap row_map c.in_ok-page.ensures.items in
    let within : upto ≤ length arcs = omega (arith, c.min.ensures, c.loop-from-test.true) in
    record {
      within = within;
      whole = ap joined c.in_ok-push.ensures.items
          ∙ cut_page arcs c.requires.row from upto c.loop-from.pages.items c.from_arcs.result
          (omega arith) c.loop-from.invariant.whole e;
      some = subst (λ ps. All (λ (p : RowMap). 0 < finite.len p) ps)
          (sym c.in_ok-push.ensures.items)
          (All-push (λ (p : RowMap). 0 < finite.len p) c.loop-from.pages.items c.from_arcs.result
          c.loop-from.invariant.some
          (cut_some arcs c.requires.row from upto c.from_arcs.result
          (omega (arith, c.min.ensures, c.requires.size, c.loop-from-test.true)) within
          e));
    }
