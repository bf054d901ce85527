use Rattle.std.proofs.Common.{◌≡◌, ◌<◌, ◌^◌, take}
use Rattle.lexical.specs.Numbers.{decimal_value}
use Rattle.cli_words.proofs.numbers.exact_number.Given as goal

abbrev pub invariant-loop-b : goal.invariant-loop-b
invariant-loop-b l = record {
  value : l.number ≡ decimal_value (take l.b-index l.digits);
  small : l.number < 2 ^ 64;
}
