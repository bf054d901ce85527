use Rattle.std.proofs.Common.{◌≡◌, ◌↔◌, ◌&&◌, ℤ, Bool, true, List, sym, ap, ◌∙◌}
use Rattle.std.specs.Cmp.Lexicographic.{pointwise}
use Rattle.std.specs.Cmp.Rules.{signed_items}
use Rattle.std.specs.Ordering.{int_eq}
use Rattle.std.proofs.lemmas.Bool.Decides.{same_from_decides}
use Rattle.core_rows.proofs.kept.same_entry.Goals as goal

same_is : (r : Bool) (a b : List ℤ) → ((r ≡ true) ↔ (a ≡ b)) → r ≡ pointwise int_eq a b
same_is r a b h = same_from_decides _ _ (h.0, h.1) (signed_items a b)

pub returns-then-same : goal.returns-then-same
returns-then-same c =
    let a = c.args.a.now in
    let b = c.args.b.now in
    same_is c.same-then-same.result a.1 b.1 c.same-then-same.ensures
    ∙ ap (λ t. t && pointwise int_eq a.1 b.1)
    (sym c.if-same.true ∙ same_is c.same.result a.0 b.0 c.same.ensures)

pub returns-else-same : goal.returns-else-same
returns-else-same c =
    let a = c.args.a.now in
    let b = c.args.b.now in
    c.if-same.false
    ∙ ap (λ t. t && pointwise int_eq a.1 b.1)
    (sym c.if-same.false ∙ same_is c.same.result a.0 b.0 c.same.ensures)
