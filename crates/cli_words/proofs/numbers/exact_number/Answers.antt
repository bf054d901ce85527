use Rattle.std.proofs.Common.{◌+◌, ◌^◌, ◌≤◌, take, length, sym, ◌∙◌, arith}
use Rattle.lexical.specs.Numbers.{decimal_value}
use Rattle.lexical.proofs.NumberLemmas.{decimal_value-more}
use Rattle.cli_words.proofs.NumberLemmas.{too_great, whole_number}
use Rattle.cli_words.proofs.numbers.exact_number.Goals as goal

pub returns-in_err-tens : goal.returns-in_err-tens
returns-in_err-tens c =
    let i = c.loop-b.b-index in
    let so_far = c.loop-b.invariant.value in
    let more = decimal_value-more c.args.digits.now i c.loop-b-test.true in
    let wraps = c.in_err-tens.ensures in
    let great : 2 ^ 64 ≤ decimal_value (take (i + 1) c.args.digits.now) = omega arith in
    c.from_residual.ensures ∙ sym (too_great c.args.digits.now (i + 1) great)

pub returns-in_err-number : goal.returns-in_err-number
returns-in_err-number c =
    let i = c.loop-b.b-index in
    let so_far = c.loop-b.invariant.value in
    let more = decimal_value-more c.args.digits.now i c.loop-b-test.true in
    let tens = c.in_ok-tens.ensures.1 in
    let less = c.saturating_sub.ensures in
    let wide = c.from.ensures in
    let wraps = c.in_err-number.ensures in
    let great : 2 ^ 64 ≤ decimal_value (take (i + 1) c.args.digits.now) = omega arith in
    c.from_residual-in_err-number.ensures ∙ sym (too_great c.args.digits.now (i + 1) great)

pub returns : goal.returns
returns c =
    let end = c.loop-b-test.false in
    let all : length c.args.digits.now ≤ c.loop-b.b-index = omega arith in
    whole_number c.args.digits.now c.loop-b.b-index c.loop-b.number c.loop-b.invariant.value all
    c.loop-b.invariant.small
