use Rattle.std.proofs.Common.{◌≡◌, ◌+◌, ◌≤◌, ℕ, ℤ, List, length, map, ap, subst}
use Rattle.std.proofs.Common.{IfOk, arith}
use Rattle.bolt_base.specs.Graph.{Graph}
use Rattle.run_model.specs.Rows.{gathered}
use Rattle.run_model.specs.Visits.{in_visits}
use Rattle.pull_targets.specs.Reading.{part}
use Rattle.pull_targets.proofs.PartLemmas.{part_all}
use Rattle.pull_targets.proofs.pull.pull_targets.Goals as goal

pub half-requires-clause-ready : goal.half-requires-clause-ready
half-requires-clause-ready g c κs within =
    let h : Graph = g.A.Adjacency.plain c.args.graph.now in
    let ts : List ℕ = c.args.targets.now in
    let ready = c.requires.ready in
    let same = ap (in_visits h) (part_all ts) in
    let room = ready.room in
    let held = ready.units in
    let fewer = c.worth_starting-workers.ensures.most in
    record {
      before = ready.before;
      contributions = ready.contributions;
      vertices = ready.vertices;
      range = omega arith;
      places = omega arith;
      room = omega arith;
      some = c.worth_starting-workers.ensures.some;
      units = omega arith;
    }

pub returns : goal.returns
returns g c =
    let h : Graph = g.A.Adjacency.plain c.args.graph.now in
    let ts : List ℕ = c.args.targets.now in
    let f : ℕ → List ℤ = gathered c.args.program.now h (g.V.ValueRow.values c.args.row.now) in
    let all : part ts 0 (length ts) ≡ ts = part_all ts in
    record {
      aggregates = subst
          (λ (vs : List ℕ). IfOk c.half.result (λ aggs. aggs.items ≡ map f vs)) all
          c.half.ensures.aggregates;
      exact = subst (λ (vs : List ℕ). IfOk c.half.result (λ _. g.M.Meter.counted c.half.new.meter
          ≡ g.M.Meter.counted c.args.meter.now + in_visits h vs)) all c.half.ensures.exact;
      most = subst (λ (vs : List ℕ). g.M.Meter.counted c.half.new.meter
          ≤ g.M.Meter.counted c.args.meter.now + in_visits h vs) all c.half.ensures.most;
      units = c.half.ensures.units;
    }
