-- One more edge into a vertex.
use Rattle.std.proofs.Common.{◌≡◌, ◌==◌, ℕ, ℤ, ◌+◌, ◌<◌, ◌≤◌, ◌++◌, List, [], ◌∷◌, take, length}
use Rattle.std.proofs.Common.{get_or, Some, sym, ap, ◌∙◌, subst, arith, refl, FitsSigned, w64}
use Rattle.std.specs.Prelude.{slice_get}
use Rattle.std.specs.List.{All}
use Rattle.std.proofs.lemmas.List.{take_more, take_all, length-take-le}
use Rattle.std.proofs.lemmas.List.Elements.{All-filter, All-take}
use Rattle.std.proofs.lemmas.List.Sums.{fold_push}
use Rattle.std.proofs.lemmas.Option.{get_or_from_slice_get}
use Rattle.bolt_base.specs.Graph.{Graph, edges, in_edges, indeg}
use Rattle.bolt_base.specs.declared.edge.Edge.{Edge}
use Rattle.vertex_expr.specs.declared.program.ProgramEntries.{ProgramEntries}
use Rattle.range_check.specs.Gathered.{empty_of, with_one}
use Rattle.run_model.specs.Program.{lanes, by_lane, number}
use Rattle.run_model.specs.Rows.{Lists, contribution, gathered_over, gathered}
use Rattle.run_model.proofs.InRange.{IsFine, edges_fine, at_lane, length-by_lane, gathered_over_is}
use Rattle.run_model.proofs.InRange.{no_edge}
use Rattle.run_model.proofs.Listed.{same_lanes}
use Rattle.run_model.specs.Given.{IsBefore, IsEdge, edge_gives}

-- what the first k edges into a vertex come to
abbrev pub so_far : ProgramEntries → Graph → Lists → ℕ → ℕ → List ℤ
so_far p g vals v k = by_lane p (gathered_over p (contribution p g vals) (take k (in_edges g v)))

pub none_so_far : (p : ProgramEntries) (g : Graph) (vals : Lists) (v : ℕ)
    → by_lane p (λ _. empty_of p.combine) ≡ so_far p g vals v 0
none_so_far p g vals v = refl

module _ (p : ProgramEntries) (g : Graph) (vals : Lists) (before : IsBefore p g vals) (v : ℕ) where
  all_fine : All (IsFine p g before.safe before.good) (in_edges g v)
  all_fine = All-filter (λ e. e.dst == v) (IsFine p g before.safe before.good) (edges g)
      (edges_fine p g before.safe before.good)

  pub all_so_far : (k : ℕ) → indeg g v ≤ k → so_far p g vals v k ≡ gathered p g vals v
  all_so_far k past = ap (λ es. by_lane p (gathered_over p (contribution p g vals) es))
      (take_all k (in_edges g v) past)

  module _ (k : ℕ) (small : k < indeg g v) (e : Edge)
      (read : slice_get (in_edges g v) k ≡ Some e) where
    is_e : get_or (in_edges g v) k no_edge ≡ e
    is_e = get_or_from_slice_get (in_edges g v) k e no_edge read

    pub edge_is : IsEdge p g e
    edge_is = let f = subst (IsFine p g before.safe before.good) is_e (all_fine k no_edge small) in
        record { source = f.source; weight = f.weight; some = f.some }

    taken : take (k + 1) (in_edges g v) ≡ take k (in_edges g v) ++ e ∷ []
    taken = take_more (in_edges g v) k no_edge small
        ∙ ap (λ x. take k (in_edges g v) ++ x ∷ []) is_e

    next_is : (l : ℕ)
        → gathered_over p (contribution p g vals) (take (k + 1) (in_edges g v)) l
        ≡ with_one p.combine (gathered_over p (contribution p g vals) (take k (in_edges g v)) l)
        (contribution p g vals l e)
    next_is l =
        ap (λ es. gathered_over p (contribution p g vals) es l) taken
        ∙ fold_push (λ a x. with_one p.combine a (contribution p g vals l x)) (empty_of p.combine)
        (take k (in_edges g v)) e

    next_fits : (l : ℕ) → l < lanes p
        → FitsSigned w64 (with_one p.combine
        (gathered_over p (contribution p g vals) (take k (in_edges g v)) l)
        (contribution p g vals l e))
    next_fits l lane =
        let n = length-take-le (k + 1) (in_edges g v) small' in
        let most = before.good.in_degrees v in
        subst (FitsSigned w64) (next_is l)
        (gathered_over_is p g before.safe before.good vals before.ranged l lane
        (take (k + 1) (in_edges g v))
        (All-take (IsFine p g before.safe before.good) (k + 1) (in_edges g v) all_fine)
        (omega arith)).1
      where
        small' : k + 1 ≤ length (in_edges g v)
        small' = omega arith

    module _ (totals : List ℤ) (are : totals ≡ so_far p g vals v k) (ones : List ℤ)
        (made : ones ≡ edge_gives p g vals e) where
      pub totals_long : length totals ≡ lanes p
      totals_long = ap length are ∙ length-by_lane p _

      pub ones_long : length ones ≡ lanes p
      ones_long = ap length made ∙ length-by_lane p _

      both : (l : ℕ) → l < lanes p
          → with_one p.combine (number totals l) (number ones l)
          ≡ with_one p.combine (gathered_over p (contribution p g vals) (take k (in_edges g v)) l)
          (contribution p g vals l e)
      both l lane = λ j.
          with_one p.combine
          ((ap (λ xs. number xs l) are
          ∙ at_lane p (gathered_over p (contribution p g vals) (take k (in_edges g v))) l lane) j)
          ((ap (λ xs. number xs l) made ∙ at_lane p (λ i. contribution p g vals i e) l lane) j)

      pub sums_fit : (l : ℕ) → l < lanes p
          → FitsSigned w64 (with_one p.combine (number totals l) (number ones l))
      sums_fit l lane = subst (FitsSigned w64) (sym (both l lane)) (next_fits l lane)

      pub one_more : by_lane p (λ l. with_one p.combine (number totals l) (number ones l))
          ≡ so_far p g vals v (k + 1)
      one_more =
          same_lanes p (λ l. with_one p.combine (number totals l) (number ones l))
          (gathered_over p (contribution p g vals) (take (k + 1) (in_edges g v)))
          (λ l lane. both l lane ∙ sym (next_is l))
