use Rattle.std.proofs.Common.{◌≡◌, ◌≤◌, ◌-◌, length, drop}
use Rattle.text_words.specs.Tokens.{tokens_from}
use Rattle.text_words.proofs.tokens.next_token.Given as goal

abbrev pub invariant-blanks : goal.invariant-blanks
invariant-blanks l = record {
  forward : l.from ≤ l.at;
  within : l.at ≤ length l.text;
  rest : tokens_from 0 l.at (drop l.at l.text) ≡ tokens_from 0 l.from (drop l.from l.text);
}

abbrev pub decreases-blanks : goal.decreases-blanks
decreases-blanks l = length l.text - l.at
