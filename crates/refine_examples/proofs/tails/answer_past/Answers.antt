use Rattle.std.proofs.Common.{◌≡◌, ◌+◌, ◌^◌, ◌<◌, ℕ, ap, arith}
use Rattle.bolt_base.specs.Graph.{Graph}
use Rattle.vertex_expr.specs.declared.program.ProgramEntries.{ProgramEntries}
use Rattle.run_model.specs.Visits.{refine_visits, tail_visits}
use Rattle.visit_bounds.proofs.Fitting.{batch_visits_fit}
use Rattle.refine_examples.proofs.tails.answer_past.Goals as goal

pub finish-answer-requires-clause-visits : goal.finish-answer-requires-clause-visits
finish-answer-requires-clause-visits g c κs within =
    let p : ProgramEntries = c.args.accepted.now in
    let h : Graph = c.args.graph.now.now in
    let cut : ℕ = c.in_ok-history.history.cut in
    let is = c.in_ok-history.ensures.cut in
    let low = c.requires.low in
    let none : c.new-meter.result.0 ≡ 0 = ap (λ (m : ℕ × ℕ). m.0) c.new-meter.ensures in
    let fits : refine_visits p h h cut + tail_visits p h cut < 2 ^ 64 =
    batch_visits_fit p h h cut c.program-program.ensures.accepted c.requires.good c.requires.good
    (omega arith) in
    omega arith
