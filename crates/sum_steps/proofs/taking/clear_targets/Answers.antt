use Rattle.sum_steps.proofs.taking.clear_targets.Goals as goal

pub returns-clause-clear : goal.returns-clause-clear
returns-clause-clear c amounts left =
    c.wipe_marks.ensures.clear c.args.program.now amounts c.requires.lanes.0
    (c.take_rest.ensures.left amounts left)
