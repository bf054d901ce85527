use Rattle.std.proofs.Common.{◌≡◌, ℤ, List, [], ◌∷◌, ◌++◌, length, sym, ap, ◌∙◌, subst, arith}
use Rattle.std.proofs.Common.{length-append}
use Rattle.std.specs.List.{All}
use Rattle.std.proofs.lemmas.List.Elements.{All-append, All-cons, All-nil}
use Rattle.agg_history.proofs.tests.add_row.Goals as goal

one_more : (xs ys : List (List ℤ)) (x : List ℤ) → ys ≡ xs ++ x ∷ [] → length x ≡ 1
    → All (λ (y : List ℤ). length y ≡ 1) xs → All (λ (y : List ℤ). length y ≡ 1) ys
one_more xs ys x e one all =
    let P : List ℤ → Type 0 = λ y. length y ≡ 1 in
    subst (All P) (sym e) (All-append P xs (x ∷ []) all (All-cons P x [] one (All-nil P)))

pub loop-agg-preserved : goal.loop-agg-preserved
loop-agg-preserved g c = record {
  aggs = one_more c.loop-agg.aggs.items _ _ c.in_ok-push.ensures.items c.one.ensures
      c.loop-agg.invariant.aggs;
  vals = one_more c.loop-agg.vals.items _ _ c.in_ok-push-2.ensures.items c.one-in-loop-agg.ensures
      c.loop-agg.invariant.vals;
  same =
      ap length c.in_ok-push-2.ensures.items
      ∙ (let was = c.loop-agg.invariant.same in
      omega (
        arith,
        length-append c.loop-agg.vals.items (c.one-in-loop-agg.result ∷ []),
        length-append c.loop-agg.aggs.items (c.one.result ∷ []),
      ))
      ∙ sym (ap length c.in_ok-push.ensures.items);
}
