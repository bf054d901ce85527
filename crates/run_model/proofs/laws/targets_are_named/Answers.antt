use Rattle.run_model.proofs.Named.{named_is_target}
use Rattle.run_model.proofs.laws.targets_are_named.Goals as goal

pub returns : goal.returns
returns c = record { targets = named_is_target }
