use Rattle.std.proofs.Common.{◌≡◌, ◌+◌, ◌-◌, length, drop}
use Rattle.cli_words.specs.Words.{texts}
use Rattle.live_words.specs.Options.{options_from, options_at}
use Rattle.live_words.specs.Ranges.{AreGivenInRange}
use Rattle.live_words.proofs.OptionLemmas.{given_count}
use Rattle.live_words.proofs.options.read_options.Given as goal

abbrev pub invariant-words : goal.invariant-words
invariant-words l = record {
  read : options_from l.given l.at (drop (l.at - 1) (texts l.words))
      ≡ options_at (texts l.words) l.first;
  range : AreGivenInRange l.given;
  count : l.at ≡ l.first + given_count l.given;
}

abbrev pub decreases-words : goal.decreases-words
decreases-words l = length l.words + 1 - l.at
