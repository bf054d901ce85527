-- The aggregates and values of vertices that are evaluated again are those of the new graph.
use Rattle.std.proofs.Common.{◌≡◌, ℕ, ◌-◌, ◌<◌, ◌≤◌, false, cond, List, [], length, get_or}
use Rattle.std.proofs.Common.{map, sym, ap, ◌∙◌, subst}
use Rattle.std.specs.List.{All}
use Rattle.std.proofs.lemmas.List.{get_or-map, get_or_default, length-map}
use Rattle.std.proofs.lemmas.List.Elements.{All-map}
use Rattle.std.proofs.lemmas.List.FromFn.{fill_by_all}
use Rattle.bolt_base.specs.Graph.{Graph, vertices}
use Rattle.vertex_expr.specs.ProgramBounds.{aggregated}
use Rattle.vertex_expr.specs.Span.{AreIn}
use Rattle.vertex_expr.specs.declared.program.ProgramEntries.{ProgramEntries}
use Rattle.run_model.specs.Refined.{target_agg}
use Rattle.run_model.specs.Rows.{Lists, aggr, applied, at, gathered, row}
use Rattle.run_model.specs.Steps.{is_target, step, targets}
use Rattle.run_model.proofs.Iteration.{aggr_is, row_is}
use Rattle.run_model.proofs.RowLemmas.{aggregates_ranged}
use Rattle.vertex_steps.proofs.Rounds.{before_at}
use Rattle.refine_rows.specs.Over.{AreOver}
use Rattle.refine_rows.specs.Progress.{again}
use Rattle.refine_rows.specs.Seen.{had_before}
use Rattle.refine_rows.proofs.AgainLemmas.{again_there}
use Rattle.refine_rows.proofs.PickLemmas.{picked_where}
use Rattle.refine_rows.proofs.PutLemmas.{agg_is_new}
use Rattle.pull_reeval.specs.Applying.{CanApply, applied_at, applied_to}
use Rattle.pull_reeval.specs.Iterating.{aggs_of, vals_of}

module _ (p : ProgramEntries) (g h : Graph) (i : ℕ) (some : 1 ≤ i) where
  -- ---- aggregates
  -- a vertex that is no target keeps its own
  pub kept_agg : AreOver p g h → (cut v : ℕ) → i ≤ cut → v < vertices h
      → is_target p (step p g h i) v ≡ false
      → had_before p g cut i v ≡ at (aggr p h i) v
  kept_agg over cut v low there other =
      sym (ap (λ b. cond b (target_agg p (step p g h i) (had_before p g cut i v) v)
      (had_before p g cut i v)) other)
      ∙ agg_is_new p g h over cut i v some low there

  target_there : (k : ℕ) → k < length (targets p (step p g h i))
      → get_or (targets p (step p g h i)) k 0 < vertices h
  target_there k l = (picked_where (vertices h) (is_target p (step p g h i)) k l).below

  -- what targets gather
  pub pulled_are : (vals aggs : Lists) (ts : List ℕ) → vals ≡ row p h (i - 1)
      → ts ≡ targets p (step p g h i) → aggs ≡ map (gathered p h vals) ts
      → aggs ≡ aggs_of p h i ts
  pulled_are vals aggs ts now is e =
      e ∙ ap (λ xs. map (gathered p h xs) ts) now
      ∙ same_map ts (λ k l. sym (aggr_is p h i (get_or ts k 0) some
      (subst (λ us. get_or us k 0 < vertices h) (sym is)
      (target_there k (subst (λ us. k < length us) is l)))))
    where
      same_map : (us : List ℕ) → ((k : ℕ) → k < length us
          → gathered p h (row p h (i - 1)) (get_or us k 0) ≡ at (aggr p h i) (get_or us k 0))
          → map (gathered p h (row p h (i - 1))) us ≡ map (at (aggr p h i)) us
      same_map us same =
          fill_by_all (λ k. at (aggr p h i) (get_or us k 0))
          (map (gathered p h (row p h (i - 1))) us) (length us) [] (length-map us _)
          (λ k l. get_or-map (gathered p h (row p h (i - 1))) us k 0 [] l ∙ same k l)
          ∙ sym (fill_by_all (λ k. at (aggr p h i) (get_or us k 0))
          (map (at (aggr p h i)) us) (length us) [] (length-map us _)
          (λ k l. get_or-map (at (aggr p h i)) us k 0 [] l))

  -- ---- values
  module _ (over : AreOver p g h) (vs : List ℕ) (is : vs ≡ again p g h i) where
    pub all_there : All (λ v. v < vertices h) vs
    all_there k d l = subst (λ v. v < vertices h) (get_or_default vs k 0 d l)
        (again_there p g h i vs k is l)

    module _ (vals aggs : Lists) (now : vals ≡ row p h (i - 1)) (agg : aggs ≡ aggs_of p h i vs)
      where
        pub can_apply : CanApply p h vals vs aggs
        can_apply = record {
          before = before_at p h (i - 1) vals now over.safe over.new;
          there = all_there;
          long = ap length agg ∙ length-map vs (at (aggr p h i));
          ranged = subst (All (AreIn (aggregated p))) (sym agg)
              (All-map (AreIn (aggregated p)) (at (aggr p h i)) vs
              (λ k d l. aggregates_ranged p h over.safe over.new i (get_or vs k d) some
              (all_there k d l)));
        }

        value_at : (k : ℕ) → k < length vs
            → at (row p h i) (get_or vs k 0) ≡ applied_at p h vals vs aggs k
        value_at k l =
            let v : ℕ = get_or vs k 0 in
            let mine : at (aggr p h i) v ≡ at aggs k =
            sym (ap (λ xs. at xs k) agg ∙ get_or-map (at (aggr p h i)) vs k 0 [] l) in
            row_is p h i v some (again_there p g h i vs k is l)
            ∙ (λ j. applied p h (mine j) (at (sym now j) v) v)

        pub applied_are : (next : Lists) → next ≡ applied_to p h vals vs aggs
            → next ≡ vals_of p h i vs
        applied_are next e =
            e ∙ sym (fill_by_all (applied_at p h vals vs aggs) (vals_of p h i vs) (length vs) []
            (length-map vs (at (row p h i)))
            (λ k l. get_or-map (at (row p h i)) vs k 0 [] l ∙ value_at k l))
