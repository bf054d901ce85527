use Rattle.std.proofs.Common.{rules, ◌≡◌, ◌<◌, ◌^◌, ap, arith, length}
use Rattle.bolt_base.specs.Graph.{within}
use Rattle.round_engine.specs.Preparing.{most_visits}
use Rattle.engine_runs.proofs.Judging.{bad_inside, most_fit}
use Rattle.engine_runs.proofs.making.prepare_edits.Goals as goal

pub prepare-prepared-requires-clause-visits : goal.prepare-prepared-requires-clause-visits
prepare-prepared-requires-clause-visits g c =
    let s = c.args.engine.now in
    let fit : most_visits s c.as_slice-edits.result.now < 2 ^ 64 =
    most_fit s c.as_slice-edits.result.now c.accepted-accepted.ensures.safe
    c.graph-graph.ensures.good c.requires.ready.chosen.most in
    let none : c.new-meter.result.0 ≡ 0 = ap (λ m. m.0) c.new-meter.ensures in
    omega (arith, none, fit)

pub bounds-lines-index : goal.bounds-lines-index
bounds-lines-index g c =
    let s = c.args.engine.now in
    let inside : c.in-Err-At.index < length c.as_slice-edits.result.now =
    search (
      rules,
      bad_inside (within s.program.limits s.opened) s.now
          c.as_slice-edits.result.now c.in-Err-At.index c.in-Err-At.cause,
    ) in
    search (rules, inside)
