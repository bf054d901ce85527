use Rattle.std.proofs.Common.{◌≡◌, ◌++◌, ℕ, List, sym, ap, ◌∙◌, subst, arith, append_assoc}
use Rattle.bolt_base.specs.Graph.{Graph}
use Rattle.bolt_base.specs.Residue.{Amount}
use Rattle.vertex_expr.specs.declared.program.ProgramEntries.{ProgramEntries}
use Rattle.run_model.specs.Additions.{tail_adds}
use Rattle.run_model.specs.Steps.{tail_step, tail_targets}
use Rattle.run_model.proofs.Refinement.{is_tail}
use Rattle.sum_steps.specs.Laws.{IsSpread}
use Rattle.hybrid_tail.specs.TailAmounts.{tail_takes}
use Rattle.hybrid_tail.specs.TailTasks.{tail_tasks}
use Rattle.hybrid_tail.proofs.SpreadLemmas.{adds, agree, reads, spread_is}
use Rattle.hybrid_tail.proofs.sums.sum_iteration.Goals as goal

pub spread-requires-clause-agrees : goal.spread-requires-clause-agrees
spread-requires-clause-agrees g c κs within =
    let p : ProgramEntries = c.args.accepted.now in
    let h : Graph = g.A.Adjacency.plain c.args.graph.now in
    let i : ℕ = c.args.i in
    let e : c.program-program.result.now ≡ p = c.program-program.ensures.program in
    let tasks : c.in_ok-tasks.tasks ≡ tail_tasks p h i = c.in_ok-tasks.ensures
    ∙ ap (λ (q : ProgramEntries). tail_tasks q h i) e in
    agree p h i c.requires.go_on c.in_ok-tasks.tasks tasks

pub spread-requires-clause-visits : goal.spread-requires-clause-visits
spread-requires-clause-visits g c κs within =
    let p : ProgramEntries = c.args.accepted.now in
    let h : Graph = g.A.Adjacency.plain c.args.graph.now in
    let i : ℕ = c.args.i in
    let e : c.program-program.result.now ≡ p = c.program-program.ensures.program in
    let tasks : c.in_ok-tasks.tasks ≡ tail_tasks p h i = c.in_ok-tasks.ensures
    ∙ ap (λ (q : ProgramEntries). tail_tasks q h i) e in
    let same = reads p h i c.requires.go_on c.in_ok-tasks.tasks tasks in
    let room = c.requires.visits in
    omega arith

pub take_targets-requires-clause-spread : goal.take_targets-requires-clause-spread
take_targets-requires-clause-spread g c =
    let p : ProgramEntries = c.args.accepted.now in
    let h : Graph = g.A.Adjacency.plain c.args.graph.now in
    let i : ℕ = c.args.i in
    let e : c.program-program.result.now ≡ p = c.program-program.ensures.program in
    let tasks : c.in_ok-tasks.tasks ≡ tail_tasks p h i = c.in_ok-tasks.ensures
    ∙ ap (λ (q : ProgramEntries). tail_tasks q h i) e in
    let ready = c.requires.words in
    let spread : IsSpread p (tail_step p h i) c.args.words.now.layout c.in_ok-targets.targets
    c.spread.new.seat.view =
    spread_is p h i c.requires.go_on c.in_ok-tasks.tasks tasks c.args.words.now.layout ready.room
    c.args.seat.now.view c.spread.new.seat.view c.in_ok-targets.targets ready.clear
    c.spread.ensures.units c.in_ok-targets.ensures.amounts c.in_ok-targets.ensures.targets in
    subst (λ (us : List ℕ). IsSpread c.program-program.result.now
    (tail_step c.program-program.result.now h i) c.args.words.now.layout us c.spread.new.seat.view)
    (sym c.as_slice.ensures)
    (subst (λ (q : ProgramEntries). IsSpread q (tail_step q h i) c.args.words.now.layout
    c.in_ok-targets.targets c.spread.new.seat.view) (sym e) spread)

pub apply_again-requires-clause-targets : goal.apply_again-requires-clause-targets
apply_again-requires-clause-targets g c =
    let p : ProgramEntries = c.args.accepted.now in
    let h : Graph = g.A.Adjacency.plain c.args.graph.now in
    let i : ℕ = c.args.i in
    let e : c.program-program.result.now ≡ p = c.program-program.ensures.program in
    let tasks : c.in_ok-tasks.tasks ≡ tail_tasks p h i = c.in_ok-tasks.ensures
    ∙ ap (λ (q : ProgramEntries). tail_tasks q h i) e in
    let ready = c.requires.words in
    let spread : IsSpread p (tail_step p h i) c.args.words.now.layout c.in_ok-targets.targets
    c.spread.new.seat.view =
    spread_is p h i c.requires.go_on c.in_ok-tasks.tasks tasks c.args.words.now.layout ready.room
    c.args.seat.now.view c.spread.new.seat.view c.in_ok-targets.targets ready.clear
    c.spread.ensures.units c.in_ok-targets.ensures.amounts c.in_ok-targets.ensures.targets in
    c.as_slice-2.ensures ∙ spread.targets ∙ (is_tail p h i).ends
    ∙ ap (λ (q : ProgramEntries). tail_targets q h i) (sym e)

pub returns-in_err-apply_again-clause-most : goal.returns-in_err-apply_again-clause-most
returns-in_err-apply_again-clause-most g c =
    let p : ProgramEntries = c.args.accepted.now in
    let h : Graph = g.A.Adjacency.plain c.args.graph.now in
    let i : ℕ = c.args.i in
    let e : c.program-program.result.now ≡ p = c.program-program.ensures.program in
    let tasks : c.in_ok-tasks.tasks ≡ tail_tasks p h i = c.in_ok-tasks.ensures
    ∙ ap (λ (q : ProgramEntries). tail_tasks q h i) e in
    let same = reads p h i c.requires.go_on c.in_ok-tasks.tasks tasks in
    let count = c.in_ok-targets.ensures.visits in
    omega arith

pub returns-clause-amounts : goal.returns-clause-amounts
returns-clause-amounts g c =
    let p : ProgramEntries = c.args.accepted.now in
    let h : Graph = g.A.Adjacency.plain c.args.graph.now in
    let i : ℕ = c.args.i in
    let e : c.program-program.result.now ≡ p = c.program-program.ensures.program in
    let tasks : c.in_ok-tasks.tasks ≡ tail_tasks p h i = c.in_ok-tasks.ensures
    ∙ ap (λ (q : ProgramEntries). tail_tasks q h i) e in
    let start : List Amount = c.args.seat.now.view.amounts in
    c.take_targets.ensures.amounts
    ∙ (λ j. (c.in_ok-targets.ensures.amounts
    ∙ ap (λ (l : List Amount). start ++ l) (adds p h i c.requires.go_on c.in_ok-tasks.tasks tasks))
    j ++ tail_takes (e j) h i)
    ∙ append_assoc start (tail_adds p h i) (tail_takes p h i)

pub returns-clause-exact : goal.returns-clause-exact
returns-clause-exact g c =
    let p : ProgramEntries = c.args.accepted.now in
    let h : Graph = g.A.Adjacency.plain c.args.graph.now in
    let i : ℕ = c.args.i in
    let e : c.program-program.result.now ≡ p = c.program-program.ensures.program in
    let tasks : c.in_ok-tasks.tasks ≡ tail_tasks p h i = c.in_ok-tasks.ensures
    ∙ ap (λ (q : ProgramEntries). tail_tasks q h i) e in
    let same = reads p h i c.requires.go_on c.in_ok-tasks.tasks tasks in
    let count = c.in_ok-targets.ensures.visits in
    omega arith

pub returns-clause-most : goal.returns-clause-most
returns-clause-most g c =
    let p : ProgramEntries = c.args.accepted.now in
    let h : Graph = g.A.Adjacency.plain c.args.graph.now in
    let i : ℕ = c.args.i in
    let e : c.program-program.result.now ≡ p = c.program-program.ensures.program in
    let tasks : c.in_ok-tasks.tasks ≡ tail_tasks p h i = c.in_ok-tasks.ensures
    ∙ ap (λ (q : ProgramEntries). tail_tasks q h i) e in
    let same = reads p h i c.requires.go_on c.in_ok-tasks.tasks tasks in
    let count = c.in_ok-targets.ensures.visits in
    omega arith
