use Rattle.std.proofs.Common.{◌≡◌, ◌<◌, ℤ, not, ◌||◌, List, length, sym, ap, ◌∙◌}
use Rattle.std.proofs.Common.{arith, []}
use Rattle.std.specs.Cmp.Lexicographic.{pointwise}
use Rattle.std.specs.Cmp.Rules.{signed_items}
use Rattle.std.specs.Ordering.{int_eq}
use Rattle.std.proofs.lemmas.Bool.Decides.{same_from_decides}
use Rattle.std.proofs.lemmas.List.{get_or_read}
use Rattle.run_model.specs.Rows.{Lists, at}
use Rattle.run_model.proofs.Still.{not_new}
use Rattle.core_rows.proofs.changes.is_other.Goals as goal

pub returns : goal.returns
returns c =
    let old : Lists = c.args.old.now in
    let new : Lists = c.args.new.now in
    let a : List ℤ = at old c.args.v in
    let b : List ℤ = at new c.args.v in
    let past = c.if-old-v.false in
    let there : c.args.v < length old = omega arith in
    let was = get_or_read old c.args.v c.index-old-v.result there c.index-old-v.is [] in
    let now = get_or_read new c.args.v c.index-new-v.result c.requires c.index-new-v.is [] in
    let same : c.same.result ≡ pointwise int_eq a b = same_from_decides _ _ (
      λ t. sym was ∙ c.same.ensures.0 t ∙ now,
      λ e. c.same.ensures.1 (was ∙ e ∙ sym now),
    )
    (signed_items a b) in
    ap not same
    ∙ sym (ap (λ n. n || not (pointwise int_eq a b)) (not_new (length old) c.args.v there))
