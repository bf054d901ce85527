use Rattle.lexical.proofs.LineLemmas.{lines_alike}
use Rattle.lexical.proofs.laws.lines_are_alike.Goals as goal

pub returns : goal.returns
returns c = lines_alike
