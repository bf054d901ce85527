use Rattle.std.proofs.Common.{rules, ◌≡◌, ℕ, ◌+◌, ◌*◌, ◌-ℤ◌, ◌++◌, [], ◌∷◌, map, ap, ◌∙◌, arith}
use Rattle.std.proofs.Common.{FitsSigned, w64, of_z}
use Rattle.std.specs.Int.{cast_unsigned, int_wrap}
use Rattle.std.specs.List.{range_with_len}
use Rattle.std.proofs.lemmas.Int.{wrapping_sub_is}
use Rattle.std.proofs.lemmas.List.FromFn.{map-range_with_len_more}
use Rattle.bolt_base.specs.Residue.{Amount, residue}
use Rattle.run_model.specs.Program.{number}
use Rattle.edge_map.proofs.Residues.{bits_wrapped}
use Rattle.core_adds.specs.Differences.{difference}
use Rattle.core_adds.proofs.ListSteps.{joined_more}
use Rattle.core_adds.proofs.gifts.push_differences.Goals as goal

pub loop-lane-preserved : goal.loop-lane-preserved
loop-lane-preserved c =
    let l : ℕ = c.loop-lane.lane in
    let xs = c.args.now.now in
    let ys = c.args.was.now in
    let f : (ℕ → Amount) = difference c.args.dst xs ys in
    let a : FitsSigned w64 c.get.result = search rules in
    let b : FitsSigned w64 c.get-in-loop-lane.result = search rules in
    let amount : c.cast_unsigned-amount.result ≡ residue (number xs l -ℤ number ys l) =
    c.cast_unsigned-amount.ensures
    ∙ ap (of_z w64) (wrapping_sub_is w64 c.get.result c.get-in-loop-lane.result a b)
    ∙ (λ j. cast_unsigned w64 (int_wrap w64 (c.get.ensures j -ℤ c.get-in-loop-lane.ensures j)))
    ∙ bits_wrapped (number xs l -ℤ number ys l) in
    let is : c.new.result ≡ f l =
    c.new.ensures ∙ (λ j. record {
      word = c.args.dst * c.width.ensures.width j + l;
      amount = amount j;
    }) in
    joined_more c.args.list.now (map f (range_with_len 0 l)) (map f (range_with_len 0 (l + 1)))
    c.loop-lane.list c.push.new.self (f l) c.loop-lane.invariant
    (c.in_ok-push.ensures.ok ∙ (λ j. c.loop-lane.list ++ is j ∷ []))
    (map-range_with_len_more f 0 l l (omega arith))
