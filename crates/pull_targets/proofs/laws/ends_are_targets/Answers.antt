use Rattle.pull_targets.proofs.TargetLemmas.{ends_are, ends_there, tail_ends_are}
use Rattle.pull_targets.proofs.laws.ends_are_targets.Goals as goal

pub returns : goal.returns
returns c = record { targets = ends_are; tail = tail_ends_are; there = ends_there }
