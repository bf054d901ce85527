use Rattle.std.proofs.Common.{rules, ◌≤◌, ◌<◌, ◌==◌, sym, subst, arith}
use Rattle.std.specs.List.{All}
use Rattle.std.proofs.lemmas.List.{take_all}
use Rattle.std.proofs.lemmas.List.Elements.{All-filter}
use Rattle.std.proofs.lemmas.Option.{get_or_from_slice_get}
use Rattle.bolt_base.specs.Graph.{Graph, edges, out_edges, outdeg, vertices}
use Rattle.bolt_base.specs.declared.edge.Edge.{Edge}
use Rattle.run_model.proofs.InRange.{no_edge}
use Rattle.pull_targets.specs.EndList.{AreFound}
use Rattle.pull_targets.specs.Ends.{ends_at}
use Rattle.pull_targets.proofs.EndLemmas.{found_none, one_more_end}
use Rattle.pull_targets.proofs.ends.find_ends_from.Goals as goal

pub loop-k-init : goal.loop-k-init
loop-k-init g c = record {
  found = found_none c.args.found.now;
  count = omega arith;
  units = search rules;
}

pub find-requires : goal.find-requires
find-requires g c =
    let h : Graph = g.A.Adjacency.plain c.args.graph.now in
    let small : c.loop-k.k < outdeg h c.args.u = search rules in
    let same = c.loop-k.invariant.found.vertices in
    let size = c.requires.vertices in
    let all : All (λ e. e.dst < vertices h) (out_edges h c.args.u) =
    All-filter (λ e. e.src == c.args.u) (λ e. e.dst < vertices h) (edges h) c.requires.there in
    let there : c.out_edge_near-e.result.dst < vertices h =
    subst (λ (e : Edge). e.dst < vertices h)
    (get_or_from_slice_get (out_edges h c.args.u) c.loop-k.k c.out_edge_near-e.result no_edge
    c.out_edge_near-e.ensures.edge) (all c.loop-k.k no_edge small) in
    record { vertex = omega arith }

pub loop-k-preserved : goal.loop-k-preserved
loop-k-preserved g c =
    let h : Graph = g.A.Adjacency.plain c.args.graph.now in
    let small : c.loop-k.k < outdeg h c.args.u = search rules in
    let is = get_or_from_slice_get (out_edges h c.args.u) c.loop-k.k c.out_edge_near-e.result
    no_edge c.out_edge_near-e.ensures.edge in
    let was = c.loop-k.invariant.count in
    let more = c.out_edge_near-e.ensures.count in
    record {
      found = one_more_end c.args.found.now c.loop-k.found c.find.new.self
          (out_edges h c.args.u) c.loop-k.k no_edge small c.loop-k.invariant.found
          (subst (λ (e : Edge). AreFound c.loop-k.found (λ w. e.dst == w) c.find.new.self)
          (sym is) c.in_ok-find.ensures.found);
      count = omega arith;
      units = search rules;
    }

pub returns-clause-found : goal.returns-clause-found
returns-clause-found g c =
    let h : Graph = g.A.Adjacency.plain c.args.graph.now in
    let past : outdeg h c.args.u ≤ c.loop-k.k = search rules in
    subst (λ es. AreFound c.args.found.now (ends_at es) c.loop-k.found)
    (take_all c.loop-k.k (out_edges h c.args.u) past) c.loop-k.invariant.found
