use Rattle.edge_map.proofs.SameTasks.{gifts_same, adds_same, visits_same, ends_same, targets_listed}
use Rattle.edge_map.proofs.TasksAgree.{tasks_agree}
use Rattle.edge_map.proofs.laws.tasks_are_steps.Goals as goal

pub returns : goal.returns
returns c = record {
  agree = λ p s t good are. tasks_agree p s t are good;
  gifts = λ p s t good are. gifts_same p s t are good.old_good;
  adds = λ p s t good are. adds_same p s t are good.old_good;
  visits = λ p s t are. visits_same p s t are;
  ends = λ p s t good are v. ends_same p s t good.old_good are v;
  targets = λ p s t good are. targets_listed p s t good.old_good good.new_good good.grown are;
}
