use Rattle.expr_text.proofs.Exactly.{expression_exactly_spelled}
use Rattle.expr_text.proofs.laws.follows_grammar.Goals as goal

pub returns : goal.returns
returns c = expression_exactly_spelled
