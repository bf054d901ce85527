use Rattle.core_model.proofs.Running.{runs_are_ruled, start_is_ruled, steps_keep}
use Rattle.core_model.proofs.laws.core_keeps_its_rules.Goals as goal

pub returns : goal.returns
returns c = record {
  start = start_is_ruled;
  steps = λ c may s ruled k. steps_keep c may s ruled k;
  runs = λ c may desks ks. runs_are_ruled c may desks ks;
}
