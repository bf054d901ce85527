use Rattle.core_model.proofs.Differences.{words_are_differences}
use Rattle.core_model.proofs.laws.words_are_differences.Goals as goal

pub returns : goal.returns
returns c = record { words = words_are_differences }
