use Rattle.pull_targets.proofs.pull.+fn-half-join_mut+arg2+fn-half-join_mut+arg3+half.Given as goal

abbrev pub decreases-join_mut+arg2 : goal.decreases-join_mut+arg2
decreases-join_mut+arg2 g l = l.first_half

abbrev pub decreases-join_mut+arg3 : goal.decreases-join_mut+arg3
decreases-join_mut+arg3 g l = l.second_half

abbrev pub decreases-half : goal.decreases-half
decreases-half g l = l.workers
