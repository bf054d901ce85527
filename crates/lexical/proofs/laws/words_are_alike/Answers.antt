use Rattle.lexical.proofs.PlaceLemmas.{words_alike}
use Rattle.lexical.proofs.laws.words_are_alike.Goals as goal

pub returns : goal.returns
returns c = words_alike
