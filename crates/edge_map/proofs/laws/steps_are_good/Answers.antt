use Rattle.edge_map.proofs.TasksAgree.{steps_good, tail_steps_good}
use Rattle.edge_map.proofs.laws.steps_are_good.Goals as goal

pub returns : goal.returns
returns c = record { steps = steps_good; tail = tail_steps_good }
