use Rattle.std.proofs.Common.{◌≡◌, ℕ, ◌+◌, ◌-◌, sym, subst, ap, ◌∙◌, arith}
use Rattle.bolt_base.specs.Graph.{Graph}
use Rattle.vertex_expr.specs.declared.program.ProgramEntries.{ProgramEntries}
use Rattle.run_model.specs.Steps.{step}
use Rattle.run_model.specs.Visits.{refine_visits, step_visits}
use Rattle.refine_rows.specs.Progress.{IsRefinedTo}
use Rattle.refine_rows.proofs.PutLemmas.{begins}
use Rattle.pull_reeval.proofs.VisitSums.{one_more_iteration, visits_within}
use Rattle.pull_reeval.proofs.refine.refine_pull.Goals as goal

pub begin-requires-clause-none : goal.begin-requires-clause-none
begin-requires-clause-none g c =
    let was : Graph = g.O.OldGraph.graph in
    let now : Graph = g.A.Adjacency.plain c.args.graph.now in
    let ready = begins c.args.accepted.now was now c.args.history.now c.args.overlay.now
    c.args.change.now c.program-program.ensures.accepted c.requires.ready in
    subst (λ (p : ProgramEntries). IsRefinedTo p was now c.args.history.now c.args.overlay.now 0)
    (sym c.program-program.ensures.program) ready.1

pub pull_iteration-requires-clause-visits : goal.pull_iteration-requires-clause-visits
pull_iteration-requires-clause-visits g c κs within =
    let p : ProgramEntries = c.args.accepted.now in
    let was : Graph = g.O.OldGraph.graph in
    let now : Graph = g.A.Adjacency.plain c.args.graph.now in
    let i : ℕ = c.loop-i.i in
    let ends = c.cut-i-end.ensures in
    let test = c.loop-i-test.true in
    let this = ap (λ (q : ProgramEntries). step_visits q (step q was now i))
    c.program-program.ensures.program in
    let more = one_more_iteration p was now i c.loop-i.auto.i in
    let all = visits_within p was now i c.args.history.now.cut (omega arith) in
    let count = c.loop-i.invariant.count in
    let room = c.requires.visits in
    omega arith

pub returns-in_err-pull_iteration-clause-most : goal.returns-in_err-pull_iteration-clause-most
returns-in_err-pull_iteration-clause-most g c =
    let p : ProgramEntries = c.args.accepted.now in
    let was : Graph = g.O.OldGraph.graph in
    let now : Graph = g.A.Adjacency.plain c.args.graph.now in
    let i : ℕ = c.loop-i.i in
    let ends = c.cut-i-end.ensures in
    let test = c.loop-i-test.true in
    let this = ap (λ (q : ProgramEntries). step_visits q (step q was now i))
    c.program-program.ensures.program in
    let more = one_more_iteration p was now i c.loop-i.auto.i in
    let all = visits_within p was now i c.args.history.now.cut (omega arith) in
    let count = c.loop-i.invariant.count in
    let most = c.pull_iteration.ensures.most in
    omega arith

pub loop-i-preserved : goal.loop-i-preserved
loop-i-preserved g c =
    let p : ProgramEntries = c.args.accepted.now in
    let was : Graph = g.O.OldGraph.graph in
    let now : Graph = g.A.Adjacency.plain c.args.graph.now in
    let i : ℕ = c.loop-i.i in
    let this = ap (λ (q : ProgramEntries). step_visits q (step q was now i))
    c.program-program.ensures.program in
    let more = one_more_iteration p was now i c.loop-i.auto.i in
    let next = ap (refine_visits p was now) (let e : i + 1 - 1 ≡ i = omega arith in e) in
    let count = c.loop-i.invariant.count in
    let exact = c.in_ok-pull_iteration.ensures.exact in
    record {
      refined = subst (λ (q : ProgramEntries). IsRefinedTo q was now c.args.history.now
          c.pull_iteration.new.overlay (i + 1)) c.program-program.ensures.program
          c.in_ok-pull_iteration.ensures.refined;
      count = omega arith;
      held = c.pull_iteration.ensures.held ∙ c.loop-i.invariant.held;
    }
