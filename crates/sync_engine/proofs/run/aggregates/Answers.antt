use Rattle.std.proofs.Common.{◌≡◌, ◌+◌, ◌<◌, ◌≤◌, ℕ, ℤ, List, length, map, sym, ◌∙◌, subst}
use Rattle.std.proofs.Common.{arith}
use Rattle.std.proofs.Common.{IfOk}
use Rattle.std.specs.List.{All, range_with_len}
use Rattle.bolt_base.specs.Graph.{Graph, edges, vertices}
use Rattle.run_model.specs.Rows.{gathered}
use Rattle.run_model.specs.Visits.{in_visits}
use Rattle.sync_engine.proofs.Counts.{all_below, these_read}
use Rattle.sync_engine.proofs.run.aggregates.Goals as goal

pub pull_targets-requires-clause-ready : goal.pull_targets-requires-clause-ready
pull_targets-requires-clause-ready g c κs within =
    let h : Graph = g.A.Adjacency.plain c.args.graph.now in
    let is : c.as_slice.result.now ≡ range_with_len 0 (vertices h) =
    c.as_slice.ensures.value ∙ c.in_ok-all.ensures in
    let all = these_read c.args.program.now.limits h c.as_slice.result.now
    c.requires.before.good is in
    let room = c.requires.room in
    record {
      before = c.requires.before;
      contributions = c.in_ok-given.ensures.given;
      vertices = subst (λ (vs : List ℕ). All (λ v. v < vertices h) vs) (sym is)
          (all_below (vertices h));
      room = omega arith;
      some = c.requires.some;
      units = c.requires.parts;
    }

pub returns : goal.returns
returns g c =
    let h : Graph = g.A.Adjacency.plain c.args.graph.now in
    let f : ℕ → List ℤ = gathered c.args.program.now h c.args.vals.now in
    let is : c.as_slice.result.now ≡ range_with_len 0 (vertices h) =
    c.as_slice.ensures.value ∙ c.in_ok-all.ensures in
    let all : in_visits h c.as_slice.result.now ≡ length (edges h) =
    these_read c.args.program.now.limits h c.as_slice.result.now c.requires.before.good is in
    record {
      aggs = subst
          (λ (vs : List ℕ). IfOk c.pull_targets.result (λ aggs. aggs.items ≡ map f vs)) is
          c.pull_targets.ensures.aggregates;
      exact = subst (λ (n : ℕ). IfOk c.pull_targets.result (λ _.
          g.M.Meter.counted c.pull_targets.new.meter
          ≡ g.M.Meter.counted c.args.meter.now + n)) all c.pull_targets.ensures.exact;
      most = subst (λ (n : ℕ). g.M.Meter.counted c.pull_targets.new.meter
          ≤ g.M.Meter.counted c.args.meter.now + n) all c.pull_targets.ensures.most;
      units = c.pull_targets.ensures.units;
    }
