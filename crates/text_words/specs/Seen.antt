-- What contracts see of the code's tokens.
use Rattle.text_words.specs.Token.{Token, number, word, at_most, dash, mark}
use Rattle.text_words.specs.declared.token.Token.{Token as CodeToken}
use Rattle.text_words.specs.declared.token.Token.TheVariants.{Number, Word as WordToken, AtMost}
use Rattle.text_words.specs.declared.token.Token.TheVariants.{Dash, Mark}

abbrev pub seen : CodeToken → Token
seen (Number n) = number n
seen (WordToken w) = word w.now
seen AtMost = at_most
seen (Dash n) = dash n
seen (Mark b) = mark b
