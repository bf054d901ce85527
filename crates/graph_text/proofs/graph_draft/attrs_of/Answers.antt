use Rattle.std.proofs.Common.{◌≡◌, ℕ, ℤ, pos, ◌+◌, ◌++◌, ◌∷◌, [], ◌∙◌, List, Option, map, ap, sym}
use Rattle.std.proofs.Common.{rules, w64, FitsSigned}
use Rattle.std.specs.List.{range_with_len}
use Rattle.std.specs.Option.{unwrap_or}
use Rattle.std.proofs.lemmas.Int.{to_z-of_z}
use Rattle.std.proofs.lemmas.List.FromFn.{map-range_with_len_more}
use Rattle.graph_text.specs.DraftCode.{attr_at}
use Rattle.graph_text.proofs.graph_draft.attrs_of.Goals as goal

pub loop-v-preserved : goal.loop-v-preserved
loop-v-preserved c =
    let f : ℕ → ℤ = λ v. unwrap_or (attr_at c.args.given.now v) (pos 0) in
    let v = c.loop-v.v in
    let is : c.unwrap_or.result ≡ f v =
    c.unwrap_or.ensures ∙ ap (λ (o : Option ℤ). unwrap_or o (pos 0)) c.attr_of.ensures in
    let fits : FitsSigned w64 c.unwrap_or.result = search rules in
    c.in_ok-push.ensures.ok ∙ ap (λ (x : ℤ). c.loop-v.attrs ++ x ∷ [])
    (to_z-of_z w64 c.unwrap_or.result fits)
    ∙ ap (λ (xs : List ℤ). xs ++ c.unwrap_or.result ∷ []) c.loop-v.invariant
    ∙ ap (λ (x : ℤ). map f (range_with_len 0 v) ++ x ∷ []) is
    ∙ sym (map-range_with_len_more f 0 v v (Rattle.std.proofs.Common.zero-add v))
