use Rattle.std.proofs.Common.{◌≡◌, [], ◌∷◌, ◌++◌, ◌∙◌, pos, List}
use Rattle.vertex_expr.proofs.SampleLemmas.{rank_writable}
use Rattle.vertex_expr.specs.Samples.{rank}
use Rattle.vertex_expr.specs.Tree.{literal}
use Rattle.vertex_expr.specs.Writable.{IsCombination, IsWritable}
use Rattle.vertex_expr.specs.declared.program.Combine.{Combine}
use Rattle.refine_examples.proofs.program.program_of.Goals as goal

-- a list of one item
one_item : {X : Type 0} (new old : List X) (x y : X) → new ≡ old ++ x ∷ [] → old ≡ [] → x ≡ y → new
    ≡ y ∷ []
one_item new old x y e f g = e ∙ (λ i. f i ++ g i ∷ [])

combined_writable : (combine : Combine) → IsCombination combine
    → IsWritable (record rank { combine = combine })
combined_writable combine fits = record {
  name = rank_writable.name;
  limits = rank_writable.limits;
  rounds = rank_writable.rounds;
  combine = fits;
  few_params = rank_writable.few_params;
  names = rank_writable.names;
  values = rank_writable.values;
  lanes = rank_writable.lanes;
  ranges = rank_writable.ranges;
  init = rank_writable.init;
  contribute = rank_writable.contribute;
  apply = rank_writable.apply;
}

pub new-requires-2 : goal.new-requires-2
new-requires-2 c =
    let ranges = one_item _ _ _ _ c.in_ok-push.ensures.ok c.new-ranges.ensures
    (λ i. record { lo = pos 0; hi = pos 1000000000000 }) in
    let init = one_item _ _ _ _ c.in_ok-push-2.ensures.ok c.new-init.ensures.empty
    (λ i. literal (pos 1000000)) in
    let contribute = one_item _ _ _ _ c.in_ok-push-3.ensures.ok c.new-contribute.ensures.empty
    c.in_ok-share_of.ensures.tree in
    let apply = one_item _ _ _ _ c.in_ok-push-4.ensures.ok c.new-apply.ensures.empty
    c.in_ok-damped_of.ensures.tree in
    record {
      writable = rw (
        c.in_ok-rank_name.ensures.name,
        ranges,
        init,
        contribute,
        apply,
        c.new.ensures,
      ) (combined_writable c.args.combine c.requires.combination);
    }
