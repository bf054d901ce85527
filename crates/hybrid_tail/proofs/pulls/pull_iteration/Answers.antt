use Rattle.std.proofs.Common.{◌≡◌, ◌-◌, ◌<◌, ℕ, [], length, map, sym, ap, ◌∙◌, subst}
use Rattle.std.proofs.Common.{arith}
use Rattle.std.specs.List.{All}
use Rattle.std.proofs.lemmas.List.{with_items_is}
use Rattle.bolt_base.specs.Graph.{Graph, vertices}
use Rattle.vertex_expr.specs.declared.program.ProgramEntries.{ProgramEntries}
use Rattle.run_model.specs.Rows.{aggr, gathered, row}
use Rattle.run_model.specs.Steps.{active, is_active, is_tail_target, tail_targets}
use Rattle.run_model.specs.Visits.{in_visits, out_visits}
use Rattle.run_model.proofs.RowLemmas.{aggregates_whole}
use Rattle.vertex_steps.proofs.Rounds.{before_at}
use Rattle.pull_targets.specs.Ends.{ends}
use Rattle.pull_targets.proofs.TargetLemmas.{tail_ends_are}
use Rattle.hybrid_tail.proofs.RowLemmas.{all_picked, pulls_made}
use Rattle.hybrid_tail.proofs.pulls.pull_iteration.Goals as goal

pub targets_of-requires-clause-there : goal.targets_of-requires-clause-there
targets_of-requires-clause-there g c =
    let p : ProgramEntries = c.args.program.now in
    let h : Graph = g.A.Adjacency.plain c.args.graph.now in
    let i : ℕ = c.args.i in
    let rows = c.requires.rows in
    let moved : c.deref.result.now ≡ active p h i = c.deref.ensures.value ∙ rows.moved in
    let good = c.requires.go_on.good in
    record {
      removed = λ k d small. absurd (omega arith);
      added = λ k d small. absurd (omega arith);
      sources = all_picked (vertices h) (is_active p h i) c.deref.result.now moved;
      edges = λ k d small. (good.ends k d small).1;
    }

pub pull_targets-requires-clause-ready : goal.pull_targets-requires-clause-ready
pull_targets-requires-clause-ready g c κs within =
    let p : ProgramEntries = c.args.program.now in
    let h : Graph = g.A.Adjacency.plain c.args.graph.now in
    let i : ℕ = c.args.i in
    let rows = c.requires.rows in
    let moved : c.deref.result.now ≡ active p h i = c.deref.ensures.value ∙ rows.moved in
    let targets : c.in_ok-targets.targets ≡ tail_targets p h i =
    c.in_ok-targets.ensures.targets ∙ ap (ends h [] []) moved ∙ tail_ends_are p h i in
    let out : out_visits h c.deref.result.now ≡ out_visits h (active p h i) =
    ap (out_visits h) moved in
    let second : c.as_slice-2.result.now ≡ tail_targets p h i = c.as_slice-2.ensures ∙ targets in
    let into : in_visits h c.as_slice-2.result.now ≡ in_visits h (tail_targets p h i) =
    ap (in_visits h) second in
    let first = c.in_ok-targets.ensures.exact in
    let vals : c.as_slice.result.now ≡ row p h (i - 1) = c.as_slice.ensures.value ∙ rows.vals in
    let on = c.requires.go_on in
    let room = c.requires.visits in
    let units = c.targets_of.ensures.units in
    let enough = c.requires.held in
    record {
      before = before_at p h (i - 1) c.as_slice.result.now vals on.safe on.good;
      contributions = tt;
      vertices = all_picked (vertices h) (is_tail_target p h i) c.as_slice-2.result.now second;
      room = omega arith;
      some = c.requires.some;
      units = omega arith;
    }

pub returns-in_err-aggs-clause-most : goal.returns-in_err-aggs-clause-most
returns-in_err-aggs-clause-most g c =
    let p : ProgramEntries = c.args.program.now in
    let h : Graph = g.A.Adjacency.plain c.args.graph.now in
    let i : ℕ = c.args.i in
    let rows = c.requires.rows in
    let moved : c.deref.result.now ≡ active p h i = c.deref.ensures.value ∙ rows.moved in
    let targets : c.in_ok-targets.targets ≡ tail_targets p h i =
    c.in_ok-targets.ensures.targets ∙ ap (ends h [] []) moved ∙ tail_ends_are p h i in
    let out : out_visits h c.deref.result.now ≡ out_visits h (active p h i) =
    ap (out_visits h) moved in
    let second : c.as_slice-2.result.now ≡ tail_targets p h i = c.as_slice-2.ensures ∙ targets in
    let into : in_visits h c.as_slice-2.result.now ≡ in_visits h (tail_targets p h i) =
    ap (in_visits h) second in
    let first = c.in_ok-targets.ensures.exact in
    let most = c.pull_targets.ensures.most in
    omega arith

pub set_aggs-requires-clause-below : goal.set_aggs-requires-clause-below
set_aggs-requires-clause-below g c =
    let p : ProgramEntries = c.args.program.now in
    let h : Graph = g.A.Adjacency.plain c.args.graph.now in
    let i : ℕ = c.args.i in
    let rows = c.requires.rows in
    let moved : c.deref.result.now ≡ active p h i = c.deref.ensures.value ∙ rows.moved in
    let targets : c.in_ok-targets.targets ≡ tail_targets p h i =
    c.in_ok-targets.ensures.targets ∙ ap (ends h [] []) moved ∙ tail_ends_are p h i in
    let out : out_visits h c.deref.result.now ≡ out_visits h (active p h i) =
    ap (out_visits h) moved in
    let long : length c.as_mut_slice.result.now ≡ vertices h =
    ap length (c.as_mut_slice.ensures.value ∙ rows.aggs)
    ∙ (aggregates_whole p h (i - 1)).each_vertex in
    subst (λ n. All (λ v. v < n) c.as_slice-3.result.now) (sym long)
    (all_picked (vertices h) (is_tail_target p h i) c.as_slice-3.result.now
    (c.as_slice-3.ensures ∙ targets))

pub apply_again-requires-clause-rows : goal.apply_again-requires-clause-rows
apply_again-requires-clause-rows g c =
    let p : ProgramEntries = c.args.program.now in
    let h : Graph = g.A.Adjacency.plain c.args.graph.now in
    let i : ℕ = c.args.i in
    let rows = c.requires.rows in
    let moved : c.deref.result.now ≡ active p h i = c.deref.ensures.value ∙ rows.moved in
    let targets : c.in_ok-targets.targets ≡ tail_targets p h i =
    c.in_ok-targets.ensures.targets ∙ ap (ends h [] []) moved ∙ tail_ends_are p h i in
    let out : out_visits h c.deref.result.now ≡ out_visits h (active p h i) =
    ap (out_visits h) moved in
    let vals : c.as_slice.result.now ≡ row p h (i - 1) = c.as_slice.ensures.value ∙ rows.vals in
    let third : c.as_slice-3.result.now ≡ tail_targets p h i = c.as_slice-3.ensures ∙ targets in
    let new : c.deref-2.result.now ≡ map (gathered p h (row p h (i - 1))) c.as_slice-3.result.now =
    c.deref-2.ensures.value ∙ c.in_ok-aggs.ensures.aggregates
    ∙ (λ j. map (gathered p h (vals j)) ((c.as_slice-2.ensures ∙ sym c.as_slice-3.ensures) j)) in
    let made : c.set_aggs.new.aggs ≡ aggr p h i =
    pulls_made p h i c.requires.go_on c.requires.pulls c.as_mut_slice.result.now
    c.set_aggs.new.aggs c.as_slice-3.result.now (c.as_mut_slice.ensures.value ∙ rows.aggs) third
    (c.set_aggs.ensures (gathered p h (row p h (i - 1))) new) in
    let long : length c.set_aggs.new.aggs ≡ c.args.rows.now.aggs.len =
    ap length made ∙ (aggregates_whole p h i).each_vertex
    ∙ sym (c.args.rows.now.aggs.ok.0 ∙ ap length rows.aggs
    ∙ (aggregates_whole p h (i - 1)).each_vertex) in
    record {
      aggs = with_items_is c.args.rows.now.aggs c.set_aggs.new.aggs long ∙ made;
      vals = rows.vals;
      last = rows.last;
      moved = rows.moved;
    }

pub apply_again-requires-clause-targets : goal.apply_again-requires-clause-targets
apply_again-requires-clause-targets g c =
    let p : ProgramEntries = c.args.program.now in
    let h : Graph = g.A.Adjacency.plain c.args.graph.now in
    let i : ℕ = c.args.i in
    let rows = c.requires.rows in
    let moved : c.deref.result.now ≡ active p h i = c.deref.ensures.value ∙ rows.moved in
    let targets : c.in_ok-targets.targets ≡ tail_targets p h i =
    c.in_ok-targets.ensures.targets ∙ ap (ends h [] []) moved ∙ tail_ends_are p h i in
    let out : out_visits h c.deref.result.now ≡ out_visits h (active p h i) =
    ap (out_visits h) moved in
    c.as_slice-4.ensures ∙ targets

pub returns-in_err-apply_again-clause-most : goal.returns-in_err-apply_again-clause-most
returns-in_err-apply_again-clause-most g c =
    let p : ProgramEntries = c.args.program.now in
    let h : Graph = g.A.Adjacency.plain c.args.graph.now in
    let i : ℕ = c.args.i in
    let rows = c.requires.rows in
    let moved : c.deref.result.now ≡ active p h i = c.deref.ensures.value ∙ rows.moved in
    let targets : c.in_ok-targets.targets ≡ tail_targets p h i =
    c.in_ok-targets.ensures.targets ∙ ap (ends h [] []) moved ∙ tail_ends_are p h i in
    let out : out_visits h c.deref.result.now ≡ out_visits h (active p h i) =
    ap (out_visits h) moved in
    let second : c.as_slice-2.result.now ≡ tail_targets p h i = c.as_slice-2.ensures ∙ targets in
    let into : in_visits h c.as_slice-2.result.now ≡ in_visits h (tail_targets p h i) =
    ap (in_visits h) second in
    let first = c.in_ok-targets.ensures.exact in
    let exact = c.in_ok-aggs.ensures.exact in
    omega arith

pub returns-clause-exact : goal.returns-clause-exact
returns-clause-exact g c =
    let p : ProgramEntries = c.args.program.now in
    let h : Graph = g.A.Adjacency.plain c.args.graph.now in
    let i : ℕ = c.args.i in
    let rows = c.requires.rows in
    let moved : c.deref.result.now ≡ active p h i = c.deref.ensures.value ∙ rows.moved in
    let targets : c.in_ok-targets.targets ≡ tail_targets p h i =
    c.in_ok-targets.ensures.targets ∙ ap (ends h [] []) moved ∙ tail_ends_are p h i in
    let out : out_visits h c.deref.result.now ≡ out_visits h (active p h i) =
    ap (out_visits h) moved in
    let second : c.as_slice-2.result.now ≡ tail_targets p h i = c.as_slice-2.ensures ∙ targets in
    let into : in_visits h c.as_slice-2.result.now ≡ in_visits h (tail_targets p h i) =
    ap (in_visits h) second in
    let first = c.in_ok-targets.ensures.exact in
    let exact = c.in_ok-aggs.ensures.exact in
    omega arith

pub returns-clause-most : goal.returns-clause-most
returns-clause-most g c =
    let p : ProgramEntries = c.args.program.now in
    let h : Graph = g.A.Adjacency.plain c.args.graph.now in
    let i : ℕ = c.args.i in
    let rows = c.requires.rows in
    let moved : c.deref.result.now ≡ active p h i = c.deref.ensures.value ∙ rows.moved in
    let targets : c.in_ok-targets.targets ≡ tail_targets p h i =
    c.in_ok-targets.ensures.targets ∙ ap (ends h [] []) moved ∙ tail_ends_are p h i in
    let out : out_visits h c.deref.result.now ≡ out_visits h (active p h i) =
    ap (out_visits h) moved in
    let second : c.as_slice-2.result.now ≡ tail_targets p h i = c.as_slice-2.ensures ∙ targets in
    let into : in_visits h c.as_slice-2.result.now ≡ in_visits h (tail_targets p h i) =
    ap (in_visits h) second in
    let first = c.in_ok-targets.ensures.exact in
    let exact = c.in_ok-aggs.ensures.exact in
    omega arith
