use Rattle.std.proofs.Common.{sym, ◌∙◌, subst, arith}
use Rattle.bolt_base.specs.Graph.{Graph}
use Rattle.vertex_expr.specs.declared.program.ProgramEntries.{ProgramEntries}
use Rattle.run_model.proofs.VisitLemmas.{refine_more}
use Rattle.refine_rows.specs.Progress.{IsRefinedTo}
use Rattle.refine_rows.proofs.PutLemmas.{begins}
use Rattle.retract_propagate.proofs.RoundLemmas.{amounts_more, visits_within}
use Rattle.retract_propagate.proofs.refining.refine_sum.Goals as goal

pub begin-requires-clause-none : goal.begin-requires-clause-none
begin-requires-clause-none g c =
    let p : ProgramEntries = c.args.accepted.now in
    let was : Graph = g.O.OldGraph.graph in
    let now : Graph = g.A.Adjacency.plain c.args.graph.now in
    subst (λ (x : ProgramEntries). IsRefinedTo x was now c.args.history.now c.args.overlay.now 0)
    (sym c.program.ensures.program)
    (begins p was now c.args.history.now c.args.overlay.now c.args.change.now
    c.program.ensures.accepted c.requires.ready).1

pub refine_iteration-requires-clause-visits : goal.refine_iteration-requires-clause-visits
refine_iteration-requires-clause-visits g c κs within =
    let p : ProgramEntries = c.args.accepted.now in
    let was : Graph = g.O.OldGraph.graph in
    let now : Graph = g.A.Adjacency.plain c.args.graph.now in
    let cut = c.cut-done-end.ensures in
    let low = c.loop-done-test.true in
    let room = visits_within p was now c.loop-done.done c.args.history.now.cut (omega arith) in
    let so_far = c.loop-done.invariant.visits in
    let fits = c.requires.visits in
    omega arith

pub returns-in_err-refine_iteration-clause-most : goal.returns-in_err-refine_iteration-clause-most
returns-in_err-refine_iteration-clause-most g c =
    let p : ProgramEntries = c.args.accepted.now in
    let was : Graph = g.O.OldGraph.graph in
    let now : Graph = g.A.Adjacency.plain c.args.graph.now in
    let cut = c.cut-done-end.ensures in
    let low = c.loop-done-test.true in
    let room = visits_within p was now c.loop-done.done c.args.history.now.cut (omega arith) in
    let so_far = c.loop-done.invariant.visits in
    let most = c.in_err-refine_iteration.ensures.most in
    omega arith

pub loop-done-preserved : goal.loop-done-preserved
loop-done-preserved g c =
    let p : ProgramEntries = c.args.accepted.now in
    let was : Graph = g.O.OldGraph.graph in
    let now : Graph = g.A.Adjacency.plain c.args.graph.now in
    let inv = c.loop-done.invariant in
    let made = c.in_ok-refine_iteration.ensures in
    let so_far = inv.visits in
    let exact = made.exact in
    let more = refine_more p was now c.loop-done.done in
    record {
      refined = made.refined;
      amounts = amounts_more p was now c.loop-done.done c.args.seat.now.view.amounts
          c.loop-done.seat.view.amounts c.refine_iteration.new.seat.view.amounts inv.amounts
          made.amounts;
      visits = omega arith;
      held = made.held ∙ inv.held;
      table = made.table ∙ inv.table;
      clear = made.clear;
    }
