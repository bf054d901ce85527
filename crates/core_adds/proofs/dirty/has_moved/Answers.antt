use Rattle.std.proofs.Common.{◌≡◌, ℤ, not, List, [], sym, ap, ◌∙◌}
use Rattle.std.specs.Cmp.Lexicographic.{pointwise}
use Rattle.std.specs.Cmp.Rules.{signed_items}
use Rattle.std.specs.Ordering.{int_eq}
use Rattle.std.proofs.lemmas.Bool.Decides.{same_from_decides}
use Rattle.std.proofs.lemmas.List.{get_or_read}
use Rattle.run_model.specs.Rows.{at}
use Rattle.core_adds.proofs.dirty.has_moved.Goals as goal

pub returns : goal.returns
returns c =
    let a : List ℤ = at c.args.was.now c.args.u in
    let b : List ℤ = at c.args.now.now c.args.u in
    let before = get_or_read c.args.was.now c.args.u c.index-was-u.result c.requires.was
    c.index-was-u.is [] in
    let after = get_or_read c.args.now.now c.args.u c.index-now-u.result c.requires.now
    c.index-now-u.is [] in
    let same : c.same.result ≡ pointwise int_eq a b = same_from_decides _ _ (
      λ t. sym before ∙ c.same.ensures.0 t ∙ after,
      λ e. c.same.ensures.1 (before ∙ e ∙ sym after),
    ) (signed_items a b) in
    ap not same
