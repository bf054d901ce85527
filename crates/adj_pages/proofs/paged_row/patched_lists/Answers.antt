use Rattle.std.proofs.Common.{◌≡◌, sym, ◌∙◌, subst, arith, IfOk}
use Rattle.std.specs.FinMap as finite
use Rattle.adjacency.specs.Patched.{merged_row}
use Rattle.adj_pages.proofs.PageLemmas.{same_arcs, entries_patched}
use Rattle.adj_pages.proofs.paged_row.patched_lists.Goals as goal

pub returns-in_ok-made : goal.returns-in_ok-made
returns-in_ok-made c =
    c.in_ok-made.ensures
    ∙ same_arcs c.in_ok-edited.edited (merged_row c.args.lists.now c.args.patch.now)
    (c.in_ok-edited.ensures ∙ sym (entries_patched c.args.lists.now c.args.patch.now))

pub returns-else-len-gt0 : goal.returns-else-len-gt0
returns-else-len-gt0 c =
    let no_arcs : finite.len c.args.lists.now
    ≡ 0 = omega (arith, c.len.ensures, c.if-len-gt0.false) in
    subst (λ m. IfOk c.patched_row.result (λ r. r ≡ merged_row m c.args.patch.now))
    (c.new-none.ensures ∙ sym (finite.empty_of_len c.args.lists.now no_arcs))
    c.patched_row.ensures
