use Rattle.std.proofs.Math.ListN.{length-replicate}
use Rattle.std.proofs.Common.{rules, arith, List, ◌≡◌, ℕ, ℤ, pos, ◌+◌, ◌*◌, ◌<◌, ◌+ℤ◌}
use Rattle.std.proofs.Common.{length, sym, ap, ◌∙◌, subst, FitsSigned, w64}
use Rattle.std.specs.Int.{cast_signed, int_wrap}
use Rattle.std.proofs.lemmas.Int.{wrapping_add_is}
use Rattle.core_model.specs.Iterations.{word_in}
use Rattle.run_model.specs.Additions.{word}
use Rattle.run_model.specs.Program.{lanes, number}
use Rattle.run_model.proofs.ByLane.{IsSoFar, none_so_far, one_more, by_lane_at_end}
use Rattle.core_rows.proofs.words.with_words.Goals as goal

pub loop-lane-init : goal.loop-lane-init
loop-lane-init c =
    let p = c.args.program.now in
    let f : ℕ → ℤ = λ k. int_wrap w64
    (number c.args.old.now k +ℤ cast_signed w64 (word_in c.args.words.now (word p c.args.v k))) in
    none_so_far f (lanes p) c.zeros-agg.result (ap length c.zeros-agg.ensures
    ∙ length-replicate c.width-lanes.result (pos 0) ∙ c.width-lanes.ensures.width
    ∙ c.requires.old)

pub loop-lane-preserved : goal.loop-lane-preserved
loop-lane-preserved c =
    let p = c.args.program.now in
    let v : ℕ = c.args.v in
    let k : ℕ = c.loop-lane.lane in
    let words : List ℕ = c.args.words.now in
    let f : ℕ → ℤ = λ l. int_wrap w64
    (number c.args.old.now l +ℤ cast_signed w64 (word_in words (word p v l))) in
    let wide = c.width-lanes.ensures.width ∙ c.requires.old in
    let place : v * c.width-lanes.result + k ≡ word p v k = ap (λ (n : ℕ). v * n + k) wide in
    let test = c.loop-lane-test.true in
    let small : k < lanes p = omega arith in
    let taken : c.cast_signed.result ≡ cast_signed w64 (word_in words (word p v k)) =
    c.cast_signed.ensures ∙ ap (λ (n : ℕ). cast_signed w64 (word_in words n)) place in
    let a : FitsSigned w64 c.get.result = search rules in
    let b : FitsSigned w64 c.cast_signed.result = search rules in
    let e = wrapping_add_is w64 c.get.result c.cast_signed.result a b in
    subst (IsSoFar f (lanes p) (k + 1)) (sym c.set.ensures)
    (one_more f (lanes p) k c.loop-lane.agg _ c.loop-lane.invariant small
    (e ∙ (λ j. int_wrap w64 (c.get.ensures j +ℤ taken j))))

pub returns : goal.returns
returns c =
    let p = c.args.program.now in
    let f : ℕ → ℤ = λ k. int_wrap w64
    (number c.args.old.now k +ℤ cast_signed w64 (word_in c.args.words.now (word p c.args.v k))) in
    let wide = c.width-lanes.ensures.width ∙ c.requires.old in
    let past = c.loop-lane-test.false in
    by_lane_at_end p f c.loop-lane.lane c.loop-lane.agg c.loop-lane.invariant (omega arith)
