use Rattle.std.proofs.Common.{◌≡◌, ◌-◌, ℕ, ap, ◌∙◌, arith}
use Rattle.bolt_base.specs.Graph.{Graph}
use Rattle.vertex_expr.specs.declared.program.ProgramEntries.{ProgramEntries}
use Rattle.run_model.specs.Steps.{dirty, step, targets}
use Rattle.vertex_steps.proofs.Rounds.{before_at}
use Rattle.refine_rows.specs.RowValues.{new_values}
use Rattle.pull_reeval.specs.Iterating.{aggs_of}
use Rattle.pull_reeval.proofs.NewRows.{pulled_are}
use Rattle.pull_reeval.proofs.PullLemmas.{all_ends_there, reads_are, targets_are, targets_there}
use Rattle.pull_reeval.proofs.pulling.pull_again.Goals as goal

pub targets_of-requires-clause-there : goal.targets_of-requires-clause-there
targets_of-requires-clause-there g c =
    let p : ProgramEntries = c.args.program.now in
    let was : Graph = g.O.OldGraph.graph in
    let now : Graph = g.A.Adjacency.plain c.args.graph.now in
    let net = c.requires.ready.net in
    all_ends_there p was now c.args.i c.as_slice-removed.result.now c.as_slice-added.result.now
    c.deref-2.result.now
    (c.as_slice-removed.ensures ∙ net.net.is_removed) (c.as_slice-added.ensures ∙ net.net.is_added)
    (c.deref-2.ensures.value ∙ c.in_ok-dirty.ensures) net.over

pub pull_targets-requires-clause-ready : goal.pull_targets-requires-clause-ready
pull_targets-requires-clause-ready g c κs within =
    let p : ProgramEntries = c.args.program.now in
    let was : Graph = g.O.OldGraph.graph in
    let now : Graph = g.A.Adjacency.plain c.args.graph.now in
    let i : ℕ = c.args.i in
    let net = c.requires.ready.net in
    let moved : c.deref-2.result.now ≡ dirty p (step p was now i) =
    c.deref-2.ensures.value ∙ c.in_ok-dirty.ensures in
    let ts : c.in_ok-targets.targets ≡ targets p (step p was now i) =
    targets_are p was now i c.as_slice-removed.result.now c.as_slice-added.result.now
    c.deref-2.result.now
    (c.as_slice-removed.ensures ∙ net.net.is_removed) (c.as_slice-added.ensures ∙ net.net.is_added)
    moved c.in_ok-targets.targets c.in_ok-targets.ensures.targets in
    let is : c.as_slice.result.now ≡ targets p (step p was now i) = c.as_slice.ensures ∙ ts in
    let reads = reads_are p was now i c.deref-2.result.now c.as_slice.result.now moved is in
    let counted = c.in_ok-targets.ensures.exact in
    let room = c.requires.visits in
    let held = c.targets_of.ensures.units in
    let units = c.requires.held in
    record {
      before = before_at p now (i - 1) (new_values c.new-row.result) c.new-row.ensures net.over.safe
          net.over.new;
      contributions = tt;
      vertices = targets_there p was now i c.as_slice.result.now is;
      room = omega arith;
      some = c.requires.some;
      units = omega arith;
    }

pub returns-in_err-aggs-clause-most : goal.returns-in_err-aggs-clause-most
returns-in_err-aggs-clause-most g c =
    let p : ProgramEntries = c.args.program.now in
    let was : Graph = g.O.OldGraph.graph in
    let now : Graph = g.A.Adjacency.plain c.args.graph.now in
    let i : ℕ = c.args.i in
    let net = c.requires.ready.net in
    let moved : c.deref-2.result.now ≡ dirty p (step p was now i) =
    c.deref-2.ensures.value ∙ c.in_ok-dirty.ensures in
    let ts : c.in_ok-targets.targets ≡ targets p (step p was now i) =
    targets_are p was now i c.as_slice-removed.result.now c.as_slice-added.result.now
    c.deref-2.result.now
    (c.as_slice-removed.ensures ∙ net.net.is_removed) (c.as_slice-added.ensures ∙ net.net.is_added)
    moved c.in_ok-targets.targets c.in_ok-targets.ensures.targets in
    let reads = reads_are p was now i c.deref-2.result.now c.as_slice.result.now moved
    (c.as_slice.ensures ∙ ts) in
    let counted = c.in_ok-targets.ensures.exact in
    let most = c.pull_targets.ensures.most in
    omega arith

pub returns : goal.returns
returns g c =
    let p : ProgramEntries = c.args.program.now in
    let was : Graph = g.O.OldGraph.graph in
    let now : Graph = g.A.Adjacency.plain c.args.graph.now in
    let i : ℕ = c.args.i in
    let net = c.requires.ready.net in
    let moved : c.deref-2.result.now ≡ dirty p (step p was now i) =
    c.deref-2.ensures.value ∙ c.in_ok-dirty.ensures in
    let ts : c.in_ok-targets.targets ≡ targets p (step p was now i) =
    targets_are p was now i c.as_slice-removed.result.now c.as_slice-added.result.now
    c.deref-2.result.now
    (c.as_slice-removed.ensures ∙ net.net.is_removed) (c.as_slice-added.ensures ∙ net.net.is_added)
    moved c.in_ok-targets.targets c.in_ok-targets.ensures.targets in
    let is : c.as_slice.result.now ≡ targets p (step p was now i) = c.as_slice.ensures ∙ ts in
    let reads = reads_are p was now i c.deref-2.result.now c.as_slice.result.now moved is in
    let counted = c.in_ok-targets.ensures.exact in
    let exact = c.in_ok-aggs.ensures.exact in
    let most = c.pull_targets.ensures.most in
    record {
      changed = c.in_ok-changed.ensures;
      targets = ts;
      aggs = pulled_are p was now i c.requires.ready.some (new_values c.new-row.result)
          c.in_ok-aggs.aggs.items c.as_slice.result.now c.new-row.ensures is
          c.in_ok-aggs.ensures.aggregates
          ∙ ap (λ us. aggs_of p now i us) c.as_slice.ensures;
      exact = omega arith;
      most = omega arith;
      held = c.pull_targets.ensures.units ∙ c.targets_of.ensures.units;
    }
