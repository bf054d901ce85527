use Rattle.std.specs.List.{range_with_len}
use Rattle.std.proofs.Math.ListN.{length-replicate}
use Rattle.std.proofs.Common.{rules, arith, List, map, append-nil, ◌≡◌, ◌≢◌, ℕ, ℤ, pos, ◌+◌, ◌*◌}
use Rattle.std.proofs.Common.{◌<◌, ◌^◌, ◌+ℤ◌, ◌++◌, length, sym, ap, ◌∙◌, subst}
use Rattle.std.proofs.Common.{FitsSigned, w64}
use Rattle.std.specs.Int.{cast_signed, int_wrap}
use Rattle.std.proofs.lemmas.Int.{wrapping_add_is}
use Rattle.bolt_base.specs.Residue.{Amount, sum_at}
use Rattle.agg_words.specs.Facts.{SeatFacts}
use Rattle.agg_words.specs.View.{minus}
use Rattle.agg_words.specs.declared.layout.Layout.{Layout}
use Rattle.run_model.specs.Additions.{word}
use Rattle.run_model.specs.Program.{lanes, number}
use Rattle.run_model.proofs.ByLane.{IsSoFar, none_so_far, one_more, by_lane_at_end}
use Rattle.edge_map.proofs.Growing.{amounts_more}
use Rattle.sum_steps.specs.Taken.{take_of}
use Rattle.sum_steps.proofs.TakenWords.{AreZero, zero_none, zero_more, taken_one}
use Rattle.sum_steps.proofs.taking.take_target.Goals as goal

pub overflow_mul-first : goal.overflow_mul-first
overflow_mul-first c =
    let wide = c.width-lanes.ensures.width ∙ c.requires.old in
    let e = ap (λ (n : ℕ). c.args.v * n) wide in
    let r = c.requires.words in
    let same = ap (λ (k : Layout). k.words) c.layout-words.ensures in
    let big : c.layout-words.result.words < 2 ^ 32 = search rules in
    omega arith

pub overflow_add-first : goal.overflow_add-first
overflow_add-first c =
    let wide = c.width-lanes.ensures.width ∙ c.requires.old in
    let e = ap (λ (n : ℕ). c.args.v * n) wide in
    let r = c.requires.words in
    let same = ap (λ (k : Layout). k.words) c.layout-words.ensures in
    let big : c.layout-words.result.words < 2 ^ 32 = search rules in
    let t = c.loop-lane-test.true in
    omega arith

pub take-taken-requires-clause-word : goal.take-taken-requires-clause-word
take-taken-requires-clause-word c =
    let wide = c.width-lanes.ensures.width ∙ c.requires.old in
    let e = ap (λ (n : ℕ). c.args.v * n) wide in
    let r = c.requires.words in
    let t = c.loop-lane-test.true in
    omega arith

pub loop-lane-init : goal.loop-lane-init
loop-lane-init c =
    let p = c.args.program.now in
    let v : ℕ = c.args.v in
    let before : List Amount = c.args.seat.now.view.amounts in
    let f : ℕ → ℤ = λ k. int_wrap w64
    (number c.args.old.now k +ℤ cast_signed w64 (sum_at (word p v k) before)) in
    let long : length c.zeros-agg.result ≡ length c.args.old.now = ap length c.zeros-agg.ensures
    ∙ length-replicate c.width-lanes.result (pos 0) ∙ c.width-lanes.ensures.width in
    record {
      seat = λ j. record c.args.seat.now
          { view = record c.args.seat.now.view { amounts = sym (append-nil before) j } };
      zero = zero_none p v before;
      agg = none_so_far f (length c.args.old.now) c.zeros-agg.result long;
    }

pub loop-lane-preserved : goal.loop-lane-preserved
loop-lane-preserved c =
    let p = c.args.program.now in
    let v : ℕ = c.args.v in
    let k : ℕ = c.loop-lane.lane in
    let before : List Amount = c.args.seat.now.view.amounts in
    let now : List Amount = c.loop-lane.seat.view.amounts in
    let inv = c.loop-lane.invariant in
    let f : ℕ → ℤ = λ l. int_wrap w64
    (number c.args.old.now l +ℤ cast_signed w64 (sum_at (word p v l) before)) in
    let place : ℕ = v * c.width-lanes.result + k in
    let wide = c.width-lanes.ensures.width in
    let is : place ≡ word p v k = ap (λ (n : ℕ). v * n + k) (wide ∙ c.requires.old) in
    let apart : (l : ℕ) → l < k → word p v k ≢ word p v l = λ l low e. absurd (omega arith) in
    let sum : sum_at place now ≡ sum_at (word p v k) before = ap (λ (w : ℕ). sum_at w now) is
    ∙ inv.zero.others (word p v k) apart in
    let taken : c.take-taken.result ≡ cast_signed w64 (sum_at (word p v k) before) =
    c.take-taken.ensures.sum ∙ ap (cast_signed w64) sum in
    let small : k < length c.args.old.now = omega arith in
    let a : FitsSigned w64 c.get.result = search rules in
    let b : FitsSigned w64 c.take-taken.result = search rules in
    let e = wrapping_add_is w64 c.get.result c.take-taken.result a b in
    let one : Amount = record { word = place; amount = minus (sum_at place now) } in
    record {
      seat = amounts_more (take_of p before v) c.args.seat.now c.loop-lane.seat
          c.take-taken.new.seat k one inv.seat c.take-taken.ensures.seat
          (λ j. record { word = is j; amount = minus (sum j) });
      zero = zero_more p v k place (minus (sum_at place now)) before now
          c.take-taken.new.seat.view.amounts inv.zero is
          (ap (λ (s : SeatFacts). s.view.amounts) c.take-taken.ensures.seat)
          c.take-taken.ensures.zero;
      agg = subst (IsSoFar f (length c.args.old.now) (k + 1)) (sym c.set.ensures)
          (one_more f (length c.args.old.now) k c.loop-lane.agg _ inv.agg small
          (e ∙ (λ j. int_wrap w64 (c.get.ensures j +ℤ taken j))));
    }

pub returns-clause-agg : goal.returns-clause-agg
returns-clause-agg c =
    let p = c.args.program.now in
    let f : ℕ → ℤ = λ k. int_wrap w64
    (number c.args.old.now k +ℤ cast_signed w64
    (sum_at (word p c.args.v k) c.args.seat.now.view.amounts)) in
    let wide = c.width-lanes.ensures.width ∙ c.requires.old in
    let past = c.loop-lane-test.false in
    by_lane_at_end p f c.loop-lane.lane c.loop-lane.agg
    (subst (λ (n : ℕ). IsSoFar f n c.loop-lane.lane c.loop-lane.agg) c.requires.old
    c.loop-lane.invariant.agg) (omega arith)

pub returns-clause-seat : goal.returns-clause-seat
returns-clause-seat c =
    let p = c.args.program.now in
    let before : List Amount = c.args.seat.now.view.amounts in
    let wide = c.width-lanes.ensures.width ∙ c.requires.old in
    let past = c.loop-lane-test.false in
    let end : c.loop-lane.lane ≡ lanes p = omega arith in
    c.loop-lane.invariant.seat ∙ ap (λ (n : ℕ). record c.args.seat.now {
      view = record c.args.seat.now.view
          { amounts = before ++ map (take_of p before c.args.v) (range_with_len 0 n) };
    }) end

pub returns-clause-left : goal.returns-clause-left
returns-clause-left c amounts rest left =
    let p = c.args.program.now in
    let before : List Amount = c.args.seat.now.view.amounts in
    let f : ℕ → ℤ = λ k. int_wrap w64
    (number c.args.old.now k +ℤ cast_signed w64 (sum_at (word p c.args.v k) before)) in
    let wide = c.width-lanes.ensures.width ∙ c.requires.old in
    let past = c.loop-lane-test.false in
    let end : c.loop-lane.lane ≡ lanes p = omega arith in
    let seat = c.loop-lane.invariant.seat
    ∙ ap (λ (n : ℕ). record c.args.seat.now {
      view = record c.args.seat.now.view
          { amounts = before ++ map (take_of p before c.args.v) (range_with_len 0 n) };
    }) end
    in
    let agg = by_lane_at_end p f c.loop-lane.lane c.loop-lane.agg
    (subst (λ (n : ℕ). IsSoFar f n c.loop-lane.lane c.loop-lane.agg) c.requires.old
    c.loop-lane.invariant.agg) (omega arith) in
    let zero = subst (λ (n : ℕ). AreZero p c.args.v n before c.loop-lane.seat.view.amounts) end
    c.loop-lane.invariant.zero in
    taken_one p c.args.words.now.layout amounts c.args.old.now c.args.v rest c.loop-lane.agg
    c.args.seat.now.view c.loop-lane.seat.view left zero
    (ap (λ (s : SeatFacts). s.view.units) seat) agg (ap (λ (s : SeatFacts). s.view.amounts) seat)
