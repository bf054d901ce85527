use Rattle.std.proofs.Common.{◌+◌, ◌++◌, ℕ, List, ap, sym, ◌∙◌, subst, arith}
use Rattle.std.proofs.lemmas.List.{append_assoc}
use Rattle.bolt_base.specs.Graph.{Graph}
use Rattle.bolt_base.specs.Residue.{Amount}
use Rattle.vertex_expr.specs.declared.program.ProgramEntries.{ProgramEntries}
use Rattle.run_model.specs.Additions.{adds_of, items}
use Rattle.run_model.specs.Steps.{Step, step}
use Rattle.edge_map.specs.TaskLaws.{AreTasksOf}
use Rattle.edge_map.specs.declared.tasks.Tasks.{Tasks}
use Rattle.edge_map.proofs.SameTasks.{adds_same}
use Rattle.edge_map.proofs.TasksAgree.{steps_good, tasks_agree}
use Rattle.sum_steps.specs.Laws.{IsSpread}
use Rattle.sum_steps.specs.Taken.{takes}
use Rattle.sum_steps.proofs.Spreading.{spread_leaves}
use Rattle.retract_propagate.proofs.RoundLemmas.{task_reads}
use Rattle.retract_propagate.proofs.iteration.refine_iteration.Goals as goal

pub spread-requires-clause-agrees : goal.spread-requires-clause-agrees
spread-requires-clause-agrees g c κs within =
    let p : ProgramEntries = c.args.accepted.now in
    let was : Graph = g.O.OldGraph.graph in
    let now : Graph = g.A.Adjacency.plain c.args.graph.now in
    let t : Tasks = c.in_ok-tasks.tasks in
    let over = c.requires.change.over in
    let are = subst (λ (x : ProgramEntries). AreTasksOf x (step x was now c.args.i) t)
    c.program-program.ensures.program c.in_ok-tasks.ensures in
    tasks_agree p (step p was now c.args.i) t are
    (steps_good p was now over.safe over.old over.new over.more c.args.i)

pub spread-requires-clause-visits : goal.spread-requires-clause-visits
spread-requires-clause-visits g c κs within =
    let p : ProgramEntries = c.args.accepted.now in
    let was : Graph = g.O.OldGraph.graph in
    let now : Graph = g.A.Adjacency.plain c.args.graph.now in
    let t : Tasks = c.in_ok-tasks.tasks in
    let are = subst (λ (x : ProgramEntries). AreTasksOf x (step x was now c.args.i) t)
    c.program-program.ensures.program c.in_ok-tasks.ensures in
    let reads = task_reads p (step p was now c.args.i) t c.requires.sum are in
    let fits = c.requires.visits in
    omega arith

pub apply_targets-requires-clause-spread : goal.apply_targets-requires-clause-spread
apply_targets-requires-clause-spread g c =
    let p : ProgramEntries = c.args.accepted.now in
    let was : Graph = g.O.OldGraph.graph in
    let now : Graph = g.A.Adjacency.plain c.args.graph.now in
    let t : Tasks = c.in_ok-tasks.tasks in
    let k = c.args.words.now.layout in
    let over = c.requires.change.over in
    let new = c.spread.new.seat.view in
    let are = subst (λ (x : ProgramEntries). AreTasksOf x (step x was now c.args.i) t)
    c.program-program.ensures.program c.in_ok-tasks.ensures in
    let spread = spread_leaves p (step p was now c.args.i) t k
    (steps_good p was now over.safe over.old over.new over.more c.args.i) are c.requires.words.room
    c.args.seat.now.view new c.in_ok-targets.targets c.requires.words.clear
    c.in_ok-targets.ensures.units c.in_ok-targets.ensures.amounts c.in_ok-targets.ensures.targets in
    subst (λ (x : ProgramEntries). IsSpread x (step x was now c.args.i) k c.as_slice.result.now new)
    (sym c.program-program.ensures.program)
    (subst (λ (us : List ℕ). IsSpread p (step p was now c.args.i) k us new)
    (sym c.as_slice.ensures) spread)

pub returns-clause-amounts : goal.returns-clause-amounts
returns-clause-amounts g c =
    let p : ProgramEntries = c.args.accepted.now in
    let was : Graph = g.O.OldGraph.graph in
    let now : Graph = g.A.Adjacency.plain c.args.graph.now in
    let s : Step = step p was now c.args.i in
    let t : Tasks = c.in_ok-tasks.tasks in
    let old : List Amount = c.args.seat.now.view.amounts in
    let new : List Amount = c.spread.new.seat.view.amounts in
    let are = subst (λ (x : ProgramEntries). AreTasksOf x (step x was now c.args.i) t)
    c.program-program.ensures.program c.in_ok-tasks.ensures in
    c.in_ok-apply_targets.ensures.amounts
    ∙ ap (λ (x : ProgramEntries). new ++ takes x (step x was now c.args.i))
    c.program-program.ensures.program
    ∙ ap (λ (l : List Amount). l ++ takes p s) (c.in_ok-targets.ensures.amounts
    ∙ ap (λ (l : List Amount). old ++ l) (adds_same p s t are c.requires.change.over.old))
    ∙ append_assoc old (adds_of p s (items p s)) (takes p s)

pub returns-clause-exact : goal.returns-clause-exact
returns-clause-exact g c =
    let p : ProgramEntries = c.args.accepted.now in
    let was : Graph = g.O.OldGraph.graph in
    let now : Graph = g.A.Adjacency.plain c.args.graph.now in
    let t : Tasks = c.in_ok-tasks.tasks in
    let are = subst (λ (x : ProgramEntries). AreTasksOf x (step x was now c.args.i) t)
    c.program-program.ensures.program c.in_ok-tasks.ensures in
    c.in_ok-targets.ensures.visits
    ∙ ap (λ (n : ℕ). g.M.Meter.counted c.args.meter.now + n)
    (task_reads p (step p was now c.args.i) t c.requires.sum are)

pub returns-clause-most : goal.returns-clause-most
returns-clause-most g c =
    let p : ProgramEntries = c.args.accepted.now in
    let was : Graph = g.O.OldGraph.graph in
    let now : Graph = g.A.Adjacency.plain c.args.graph.now in
    let t : Tasks = c.in_ok-tasks.tasks in
    let are = subst (λ (x : ProgramEntries). AreTasksOf x (step x was now c.args.i) t)
    c.program-program.ensures.program c.in_ok-tasks.ensures in
    let reads = task_reads p (step p was now c.args.i) t c.requires.sum are in
    let counted = c.in_ok-targets.ensures.visits in
    omega arith

pub returns-in_err-apply_targets-clause-most : goal.returns-in_err-apply_targets-clause-most
returns-in_err-apply_targets-clause-most g c =
    let p : ProgramEntries = c.args.accepted.now in
    let was : Graph = g.O.OldGraph.graph in
    let now : Graph = g.A.Adjacency.plain c.args.graph.now in
    let t : Tasks = c.in_ok-tasks.tasks in
    let are = subst (λ (x : ProgramEntries). AreTasksOf x (step x was now c.args.i) t)
    c.program-program.ensures.program c.in_ok-tasks.ensures in
    let reads = task_reads p (step p was now c.args.i) t c.requires.sum are in
    let counted = c.in_ok-targets.ensures.visits in
    omega arith
