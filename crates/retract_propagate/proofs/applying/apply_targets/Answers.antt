use Rattle.vertex_expr.specs.declared.program.ProgramEntries.{ProgramEntries}
use Rattle.run_model.specs.Additions.{adds_of, items}
use Rattle.run_model.specs.Steps.{Step, step}
use Rattle.retract_propagate.proofs.applying.apply_targets.Goals as goal

pub returns-in-Err-clause-clear : goal.returns-in-Err-clause-clear
returns-in-Err-clause-clear g c =
    let p : ProgramEntries = c.args.program.now in
    let s : Step = step p g.O.OldGraph.graph (g.A.Adjacency.plain c.args.graph.now) c.args.i in
    c.clear_targets.ensures.clear (adds_of p s (items p s)) c.in-Err.ensures.left.left
