use Rattle.std.proofs.Common.{[], ◌∷◌, ◌++◌, ◌∙◌, pos}
use Rattle.std.proofs.lemmas.Int.{to_z-of_z}
use mir.Syntax.{w64}
use Rattle.vertex_expr.specs.Node.{tree_of}
use Rattle.vertex_expr.specs.Tree.{literal}
use Rattle.range_check.proofs.SampleLemmas.{base_writable}
use Rattle.program_examples.proofs.samples.base.Goals as goal

pub new-requires-2 : goal.new-requires-2
new-requires-2 c =
    let low = to_z-of_z w64 c.args.weight_lo c.ranges.weight_lo in
    let high = to_z-of_z w64 c.args.most c.ranges.most in
    let ranges = c.in_ok-push.ensures.ok
    ∙ (λ i. c.new-ranges.ensures i ++ record { lo = pos 0; hi = high i } ∷ []) in
    let init = c.in_ok-push-2.ensures.ok
    ∙ (λ i. c.new-init.ensures.empty i ++ literal (pos 0) ∷ []) in
    let contribute = c.in_ok-push-3.ensures.ok
    ∙ (λ i. c.new-contribute.ensures.empty i ++ tree_of c.args.contribution ∷ []) in
    let apply = c.in_ok-push-4.ensures.ok
    ∙ (λ i. c.new-applies.ensures.empty i ++ tree_of c.args.apply ∷ []) in
    let whole = base_writable c.args.degree c.args.weight_lo c.args.most
    (tree_of c.args.contribution) (tree_of c.args.apply) c.requires.degree_some
    c.requires.degree_most c.ranges.weight_lo c.ranges.most
    c.requires.weight c.requires.most c.requires.contribution c.requires.apply
    in
    record {
      writable = rw (
        c.in_ok-base_name.ensures.name,
        low,
        ranges,
        init,
        contribute,
        apply,
        c.new.ensures,
      ) whole;
    }
