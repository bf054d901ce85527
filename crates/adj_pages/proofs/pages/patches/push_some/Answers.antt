use Rattle.std.proofs.Common.{◌≡◌, ◌++◌, ap, sym, ◌∙◌, arith}
use Rattle.std.specs.FinMap as finite
use Rattle.std.proofs.lemmas.List.{append-nil}
use Rattle.adj_pages.specs.Index.{joined}
use Rattle.adj_pages.proofs.IndexLemmas.{joined_push, no_entries_of_len}
use Rattle.adj_pages.proofs.pages.patches.push_some.Goals as goal

pub returns-in_ok-push-clause-arcs : goal.returns-in_ok-push-clause-arcs
returns-in_ok-push-clause-arcs g c = ap joined c.in_ok-push.ensures.items
    ∙ joined_push c.args.done.now.items c.args.pages

pub returns-else-len-gt0-clause-arcs : goal.returns-else-len-gt0-clause-arcs
returns-else-len-gt0-clause-arcs g c =
    sym (append-nil (joined c.args.done.now.items))
    ∙ ap (λ xs. joined c.args.done.now.items ++ xs)
    (sym (no_entries_of_len c.args.pages
    (let e : finite.len c.args.pages
    ≡ 0 = omega (arith, c.len.ensures, c.if-len-gt0.false) in e)))
