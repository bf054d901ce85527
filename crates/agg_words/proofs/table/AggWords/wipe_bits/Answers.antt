use Rattle.std.proofs.Common.{arith, ◌≡◌, ℕ, ◌+◌, ◌/◌, ◌<◌, List, take, slice_index, sym, ap, ◌∙◌}
use Rattle.std.proofs.Common.{subst}
use Rattle.std.specs.Prelude.{All}
use Rattle.std.proofs.lemmas.List.{take_all}
use Rattle.agg_words.specs.View.{times, outside, outside_all, without_word}
use Rattle.agg_words.specs.Facts.{SeatFacts}
use Rattle.agg_words.proofs.Views.{All-weaker}
use Rattle.agg_words.proofs.Clearing.{outside_nothing, outside_more, outside_none, All-times}
use Rattle.agg_words.proofs.table.AggWords.wipe_bits.Goals as goal

pub loop-bit-init : goal.loop-bit-init
loop-bit-init c =
    let v = c.know.new.seat.view in
    λ i. record c.know.new.seat {
      view = record v
          { marks = sym (outside_nothing v.marks) i; met = sym (outside_nothing v.met) i };
    }

pub loop-bit-preserved : goal.loop-bit-preserved
loop-bit-preserved c =
    let v = c.know.new.seat.view in
    let wiped = c.args.bits.now in
    let k = c.loop-bit.bit-index in
    let more : (bits : List ℕ) → outside (slice_index wiped k / 64)
    (outside_all (take k wiped) bits)
    ≡ outside_all (take (k + 1) wiped) bits = λ bits. outside_more wiped k 0 bits
    c.loop-bit-test.true in
    c.wipe.ensures.seat ∙ ap (λ (s : SeatFacts). record s
    { view = without_word s.view (slice_index wiped k / 64) }) c.loop-bit.invariant
    ∙ (λ i. record c.know.new.seat {
      view = record v { marks = more v.marks i; met = more v.met i };
    })

pub returns-clause-none : goal.returns-clause-none
returns-clause-none c among =
    let bits = c.args.bits.now in
    let same = c.know.ensures.same in
    let v = c.args.seat.now.view in
    let known = c.know.ensures.full (ap (λ (s : SeatFacts). s.view.units) same ∙ c.requires.units)
    in
    let met : All (λ bit. 0 < times bit v.marks) v.met = subst
    (λ (s : SeatFacts). All (λ bit. 0 < times bit s.view.marks) s.view.met) same known.met in
    let whole : take c.loop-bit.bit-index bits
    ≡ bits = take_all c.loop-bit.bit-index bits
    (let past = c.loop-bit-test.false in omega arith) in
    let met_among = All-weaker (λ bit. 0 < times bit v.marks) (λ bit. 0 < times bit bits) v.met
    (λ bit there. All-times (λ b. 0 < times b bits) bit v.marks among there) met in (
      ap (λ (s : SeatFacts). s.view.marks) c.loop-bit.invariant
          ∙ ap (λ (s : SeatFacts). outside_all (take c.loop-bit.bit-index bits) s.view.marks) same
          ∙ ap (λ w. outside_all w v.marks) whole ∙ outside_none bits v.marks among,
      ap (λ (s : SeatFacts). s.view.met) c.loop-bit.invariant
          ∙ ap (λ (s : SeatFacts). outside_all (take c.loop-bit.bit-index bits) s.view.met) same
          ∙ ap (λ w. outside_all w v.met) whole ∙ outside_none bits v.met met_among,
    )
