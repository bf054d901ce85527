use Rattle.std.proofs.Common.{◌≡◌, ◌≤◌, length, refl, sym, ap, ◌∙◌, arith, Some}
use Rattle.std.specs.Prelude.{string_bytes}
use Rattle.std.proofs.lemmas.List.{length-map}
use Rattle.cli_words.specs.Words.{texts, word_at}
use Rattle.cli_words.specs.Options.{option_taken}
use Rattle.cli_words.proofs.OptionLemmas.{given_most, taken_more, options_more}
use Rattle.cli_words.proofs.options.read_options.Goals as goal

pub words-init : goal.words-init
words-init c = record {
  read = refl;
  range = record { cut = tt; workers = tt };
  count = omega arith;
}

pub overflow_add-at : goal.overflow_add-at
overflow_add-at c =
    let most = given_most c.words.given in
    let count = c.words.invariant.count in
    let small = c.requires.small in
    omega arith

pub words-preserved : goal.words-preserved
words-preserved c =
    let offer = c.args.offer in
    let g = c.words.given in
    let at = c.words.at in
    let words = texts c.args.words.now in
    let count = c.words.invariant.count in
    let first = c.requires.first in
    let some : 1 ≤ at = omega arith in
    let test = c.words-test.true in
    let there : at ≤ length words = omega (arith, length-map c.args.words.now string_bytes) in
    let taken : option_taken offer g (word_at words at) ≡ Some c.in-Some.more =
    ap (option_taken offer g) (sym c.word_at.ensures) ∙ sym c.in-Some.ensures.given in
    let more = taken_more offer g (word_at words at) c.in-Some.more taken in
    record {
      read = options_more offer g c.in-Some.more at words some there taken ∙ c.words.invariant.read;
      range = c.in-Some.ensures.range c.words.invariant.range;
      count = omega arith;
    }
