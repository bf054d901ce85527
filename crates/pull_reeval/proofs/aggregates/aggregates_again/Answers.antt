use Rattle.std.proofs.Common.{◌≡◌, ◌+◌, ◌<◌, ℕ, List, Bool, false, true, length, get_or, ap, ◌∙◌}
use Rattle.std.proofs.Common.{subst, sym, arith, []}
use Rattle.std.proofs.lemmas.List.{get_or-map, get_or_read, length-map}
use Rattle.bolt_base.specs.Graph.{Graph}
use Rattle.vertex_expr.specs.declared.program.ProgramEntries.{ProgramEntries}
use Rattle.run_model.specs.Rows.{aggr, at}
use Rattle.run_model.specs.Steps.{is_target, step}
use Rattle.refine_rows.proofs.AgainLemmas.{again_there}
use Rattle.pull_reeval.proofs.NewRows.{kept_agg}
use Rattle.pull_reeval.proofs.TargetWalk.{none_found, one_found, one_more, others_fail}
use Rattle.pull_reeval.proofs.TargetWalk.{target_passes, targets_among}
use Rattle.pull_reeval.proofs.aggregates.aggregates_again.Goals as goal
use Rattle.pull_reeval.proofs.aggregates.aggregates_again.Goals.{then-is_at+in_ok-push}
use Rattle.pull_reeval.proofs.aggregates.aggregates_again.Goals.{else-is_at+in_ok-push-2}

pub loop-v-preserved : goal.loop-v-preserved
loop-v-preserved g c =
    let p : ProgramEntries = c.args.program.now in
    let was : Graph = g.O.OldGraph.graph in
    let now : Graph = g.A.Adjacency.plain c.args.graph.now in
    let i : ℕ = c.args.i in
    let test : (ℕ → Bool) = is_target p (step p was now i) in
    let vs : List ℕ = c.args.applied.now in
    let ts : List ℕ = c.args.targets.now in
    let k : ℕ = c.loop-v.v-index in
    let place : ℕ = c.loop-v.place in
    let small : k < length vs = c.loop-v-test.true in
    elim c.if-is_at.branch [
      | then-is_at+in_ok-push w ↦
          let at_place = c.is_at.ensures.0 w.if-is_at.true in
          let there : place < length ts = at_place.0 in
          let same : get_or ts place 0 ≡ get_or vs k 0 = at_place.1 in
          let so = subst (λ v. test v ≡ true) same
          (target_passes p was now i ts place c.requires.targets there) in
          let long : length c.args.pulled.now ≡ length ts = ap length c.requires.pulled
          ∙ length-map ts (at (aggr p now i)) in
          let agg = get_or_read c.args.pulled.now place w.index-pulled-place.result (omega arith)
          w.index-pulled-place.is []
          ∙ ap (λ xs. get_or xs place []) c.requires.pulled
          ∙ get_or-map (at (aggr p now i)) ts place 0 [] there
          ∙ ap (at (aggr p now i)) same in
          rw (w.aggs-is, w.place-is) (record {
            aggs = one_more (at (aggr p now i)) vs k c.loop-v.aggs.items w.push.new.self.items
                w.index-pulled-place.result small w.in_ok-push.ensures.items
                c.loop-v.invariant.aggs agg;
            place = ap (λ n. n + 1) c.loop-v.invariant.place ∙ sym (one_found test vs k small so);
          })
      | else-is_at+in_ok-push-2 w ↦
          let among = c.requires.targets ∙ targets_among p was now i vs c.requires.some
          c.requires.applied in
          let other : test (get_or vs k 0) ≡ false =
          others_fail test vs k small ts place among c.loop-v.invariant.place
          (λ there same. let b = c.is_at.ensures.1 (there, same) in
          let no = w.if-is_at.false in cc) in
          let agg = w.old_agg.ensures ∙ kept_agg p was now i c.requires.some c.requires.over
          c.args.history.now.cut (get_or vs k 0) c.requires.low
          (again_there p was now i vs k c.requires.applied small) other in
          rw (w.aggs-is, w.place-is) (record {
            aggs = one_more (at (aggr p now i)) vs k c.loop-v.aggs.items
                w.push-else-is_at.new.self.items w.old_agg.result small
                w.in_ok-push-2.ensures.items c.loop-v.invariant.aggs agg;
            place = c.loop-v.invariant.place ∙ sym (none_found test vs k small other);
          })
    ]
