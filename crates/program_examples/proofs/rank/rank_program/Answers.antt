use Rattle.std.proofs.Common.{◌≡◌, [], ◌∷◌, ◌++◌, ◌∙◌, pos, List}
use Rattle.vertex_expr.proofs.SampleLemmas.{rank_writable}
use Rattle.vertex_expr.specs.Tree.{literal}
use Rattle.program_examples.proofs.rank.rank_program.Goals as goal

-- a list of one item
one_item : {X : Type 0} (new old : List X) (x y : X) → new ≡ old ++ x ∷ [] → old ≡ [] → x ≡ y
    → new ≡ y ∷ []
one_item new old x y e f g = e ∙ (λ i. f i ++ g i ∷ [])

pub new-requires-2 : goal.new-requires-2
new-requires-2 c =
    let ranges = one_item _ _ _ _ c.in_ok-push.ensures.ok c.new-ranges.ensures
    (λ i. record { lo = pos 0; hi = pos 1000000000000 }) in
    let init = one_item _ _ _ _ c.in_ok-push-2.ensures.ok c.new-init.ensures.empty
    (λ i. literal (pos 1000000)) in
    let contribute = one_item _ _ _ _ c.in_ok-push-3.ensures.ok c.new-contribute.ensures.empty
    c.in_ok-share_of.ensures.tree in
    let apply = one_item _ _ _ _ c.in_ok-push-4.ensures.ok c.new-apply.ensures.empty
    c.in_ok-damped_of.ensures.tree in
    record {
      writable = rw (
        c.in_ok-rank_name.ensures.name,
        ranges,
        init,
        contribute,
        apply,
        c.new.ensures,
      ) rank_writable;
    }
