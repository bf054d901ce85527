use Rattle.bolt_base.proofs.BadLemmas.{bad_first}
use Rattle.bolt_base.proofs.laws.bad_is_first.Goals as goal

pub returns : goal.returns
returns c = record { law = bad_first }
