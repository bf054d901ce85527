use Rattle.std.proofs.Common.{rules, ◌≡◌, ◌<◌, ℕ, List, [], length, sym, ap, ◌∙◌, subst}
use Rattle.std.proofs.Common.{arith}
use Rattle.std.specs.List.{All}
use Rattle.std.proofs.lemmas.List.{take_all}
use Rattle.std.proofs.lemmas.List.Sums.{sum_by_more, sum_by_more_le}
use Rattle.bolt_base.specs.Graph.{Graph, outdeg, vertices}
use Rattle.bolt_base.specs.declared.edge.Edge.{Edge}
use Rattle.pull_targets.specs.EndList.{AreFound, EndState}
use Rattle.pull_targets.proofs.EndLemmas.{found_none}
use Rattle.pull_targets.proofs.TargetLemmas.{all_found, ends_out_of, one_more_source}
use Rattle.pull_targets.proofs.ends.targets_of.Goals as goal

pub find_ends-requires : goal.find_ends-requires
find_ends-requires g c =
    let h : Graph = g.A.Adjacency.plain c.args.graph.now in
    let size : c.in_ok-found.found.vertices ≡ vertices h =
    ap (λ (s : EndState). s.vertices) c.in_ok-found.ensures ∙ c.vertices.ensures in
    record {
      there = subst (λ (n : ℕ). All (λ (e : Edge). e.dst < n) c.args.removed.now) (sym size)
          c.requires.there.removed;
    }

pub find_ends-requires-2 : goal.find_ends-requires-2
find_ends-requires-2 g c =
    let h : Graph = g.A.Adjacency.plain c.args.graph.now in
    let size : c.find_ends.new.found.vertices ≡ vertices h =
    c.in_ok-find_ends.ensures.found.vertices
    ∙ ap (λ (s : EndState). s.vertices) c.in_ok-found.ensures ∙ c.vertices.ensures in
    record {
      there = subst (λ (n : ℕ). All (λ (e : Edge). e.dst < n) c.args.added.now) (sym size)
          c.requires.there.added;
    }

pub loop-u-init : goal.loop-u-init
loop-u-init g c = record {
  found = found_none c.find_ends-2.new.found;
  count = omega arith;
  units = search rules;
}

pub find_ends_from-requires-clause-vertices : goal.find_ends_from-requires-clause-vertices
find_ends_from-requires-clause-vertices g c =
    c.loop-u.invariant.found.vertices ∙ c.in_ok-find_ends-2.ensures.found.vertices
    ∙ c.in_ok-find_ends.ensures.found.vertices
    ∙ ap (λ (s : EndState). s.vertices) c.in_ok-found.ensures ∙ c.vertices.ensures

pub find_ends_from-requires-clause-source : goal.find_ends_from-requires-clause-source
find_ends_from-requires-clause-source g c =
    c.requires.there.sources c.loop-u.u-index 0 c.loop-u-test.true

pub find_ends_from-requires-clause-room : goal.find_ends_from-requires-clause-room
find_ends_from-requires-clause-room g c =
    let h : Graph = g.A.Adjacency.plain c.args.graph.now in
    let was = c.loop-u.invariant.count in
    let room = c.requires.room in
    let more = sum_by_more_le (outdeg h) c.args.sources.now c.loop-u.u-index 0
    c.loop-u-test.true in
    omega arith

pub returns-in_err-find_ends_from-clause-most : goal.returns-in_err-find_ends_from-clause-most
returns-in_err-find_ends_from-clause-most g c =
    let h : Graph = g.A.Adjacency.plain c.args.graph.now in
    let was = c.loop-u.invariant.count in
    let most = c.find_ends_from.ensures.most in
    let more = sum_by_more_le (outdeg h) c.args.sources.now c.loop-u.u-index 0
    c.loop-u-test.true in
    omega arith

pub loop-u-preserved : goal.loop-u-preserved
loop-u-preserved g c =
    let h : Graph = g.A.Adjacency.plain c.args.graph.now in
    let us : List ℕ = c.args.sources.now in
    let k : ℕ = c.loop-u.u-index in
    let small : k < length us = c.loop-u-test.true in
    let was = c.loop-u.invariant.count in
    let now = c.in_ok-find_ends_from.ensures.exact in
    let more = sum_by_more (outdeg h) us k 0 small in
    record {
      found = one_more_source h c.find_ends-2.new.found c.loop-u.found
          c.find_ends_from.new.found us k 0 small c.loop-u.invariant.found
          c.in_ok-find_ends_from.ensures.found;
      count = omega arith;
      units = c.find_ends_from.ensures.units ∙ c.loop-u.invariant.units;
    }

pub returns-clause-targets : goal.returns-clause-targets
returns-clause-targets g c =
    let h : Graph = g.A.Adjacency.plain c.args.graph.now in
    let us : List ℕ = c.args.sources.now in
    let past = c.loop-u-test.false in
    let third = subst (λ (vs : List ℕ).
    AreFound c.find_ends-2.new.found (ends_out_of h vs) c.loop-u.found)
    (take_all c.loop-u.u-index us (omega arith)) c.loop-u.invariant.found in
    c.from_vec.ensures ∙ c.into_rising.ensures
    ∙ all_found h c.args.removed.now c.args.added.now us c.in_ok-found.found
    c.find_ends.new.found c.find_ends-2.new.found c.loop-u.found
    (c.in_ok-found.ensures ∙ (λ j. record { vertices = c.vertices.ensures j; ends = [] }))
    c.in_ok-find_ends.ensures.found c.in_ok-find_ends-2.ensures.found third
