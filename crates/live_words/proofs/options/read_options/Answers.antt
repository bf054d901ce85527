use Rattle.std.proofs.Common.{◌≡◌, ◌≤◌, length, sym, ap, ◌∙◌, arith, Some}
use Rattle.std.specs.Prelude.{string_bytes}
use Rattle.std.proofs.lemmas.List.{length-map}
use Rattle.cli_words.specs.Words.{texts, word_at}
use Rattle.live_words.specs.Options.{option_taken}
use Rattle.live_words.proofs.OptionLemmas.{given_most, taken_more, options_more}
use Rattle.live_words.proofs.options.read_options.Goals as goal

pub overflow_add-at : goal.overflow_add-at
overflow_add-at c =
    let most = given_most c.words.given c.words.invariant.range in
    let count = c.words.invariant.count in
    let small = c.requires.small in
    omega arith

pub words-preserved : goal.words-preserved
words-preserved c =
    let g = c.words.given in
    let at = c.words.at in
    let words = texts c.args.words.now in
    let count = c.words.invariant.count in
    let first = c.requires.first in
    let some : 1 ≤ at = omega arith in
    let test = c.words-test.true in
    let there : at ≤ length words = omega (arith, length-map c.args.words.now string_bytes) in
    let taken : option_taken g (word_at words at) at ≡ Some c.in-Some.more =
    ap (λ word. option_taken g word at) (sym c.word_at.ensures) ∙ sym c.in-Some.ensures.given in
    let more = taken_more g (word_at words at) at c.in-Some.more taken in
    record {
      read = options_more g c.in-Some.more at words some there taken ∙ c.words.invariant.read;
      range = c.in-Some.ensures.range some c.words.invariant.range;
      count = omega arith;
    }
