-- One more edge of a plain list, in the aggregates so far.
use Rattle.std.proofs.Common.{◌≡◌, ℕ, ℤ, ◌+◌, ◌<◌, ◌≤◌, ◌++◌, Bool, cond, set, List, [], ◌∷◌, map}
use Rattle.std.proofs.Common.{filter, take, length, get_or, eqb, sym, ◌∙◌, ap, subst, arith, refl}
use Rattle.std.proofs.Common.{FitsSigned, w64}
use Rattle.std.specs.List.{All, range_with_len}
use Rattle.std.proofs.lemmas.List.Elements.{All-filter, All-take}
use Rattle.std.proofs.lemmas.List.FromFn.{map-range_with_len_more}
use Rattle.std.proofs.lemmas.List.Sums.{length-filter, sum_by-take-le}
use Rattle.bolt_base.specs.Graph.{Graph, IsGood, vertices, indeg}
use Rattle.bolt_base.specs.declared.edge.Edge.{Edge}
use Rattle.bolt_base.proofs.PlainLists.{length-filter-graph_of}
use Rattle.vertex_expr.specs.ProgramBounds.{lane_spans}
use Rattle.vertex_expr.specs.Span.{AreIn}
use Rattle.vertex_expr.specs.declared.program.ProgramEntries.{ProgramEntries}
use Rattle.run_model.specs.Given.{IsEdge}
use Rattle.range_check.specs.Gathered.{empty_of, with_one}
use Rattle.run_model.specs.Program.{lanes, by_lane, number}
use Rattle.run_model.specs.Rows.{Lists, at, contribution, gathered_over}
use Rattle.range_check.specs.Breaks.{IsAccepted}
use Rattle.run_model.proofs.InRange.{at_lane, length-by_lane, IsFine, edges_fine, gathered_over_is}
use Rattle.run_model.proofs.InRange.{no_edge}
use Rattle.run_model.proofs.Listed.{IsListed, listed_all, destination, with_edge, no_edges}
use Rattle.run_model.proofs.Listed.{same_lanes, folded_lanes}
use Rattle.run_model.proofs.Tables.{folded, more_at, IsFolded, folded_more}

-- one more item of a table
pub table_more : {X : Type 0} (f : ℕ → X) (k : ℕ) (xs ys : List X) (x : X) → ys ≡ xs ++ x ∷ []
    → xs ≡ map f (range_with_len 0 k) → x ≡ f k → ys ≡ map f (range_with_len 0 (k + 1))
table_more f k xs ys x e so_far is = e ∙ (λ j. so_far j ++ is j ∷ [])
    ∙ sym (map-range_with_len_more f 0 k k (omega arith))

module _ (p : ProgramEntries) (g : Graph) (safe : IsAccepted p) (good : IsGood p.limits g)
    (es : List Edge) (listed : IsListed g es)
    (row : Lists) (in_row : (v : ℕ) → v < vertices g → AreIn (lane_spans p.ranges) (at row v))
    (k : ℕ) (small : k < length es) where
  abbrev e : Edge
  e = get_or es k no_edge

  abbrev give : ℕ → Edge → ℤ
  give = contribution p g row

  -- the edges into its end, among the first ones
  abbrev first : ℕ → List Edge
  first i = filter (λ x. eqb x.dst e.dst) (take i es)

  all_fine : All (IsFine p g safe good) es
  all_fine = listed_all g es listed (IsFine p g safe good) (edges_fine p g safe good)

  pub is_edge : IsEdge p g e
  is_edge = let f = all_fine k no_edge small in record {
    source = f.source;
    weight = f.weight;
    some = f.some;
  }

  pub ends_in_graph : (e.src < vertices g) × (e.dst < vertices g)
  ends_in_graph = listed_all g es listed (λ x. (x.src < vertices g) × (x.dst < vertices g))
      good.ends k
      no_edge small

  few_so_far : length (first (k + 1)) ≤ p.limits.degree
  few_so_far =
      let q : Edge → Bool = λ x. eqb x.dst e.dst in
      let a = length-filter q (take (k + 1) es) in
      let b = length-filter q es in
      let c = sum_by-take-le (λ x. cond {A = ℕ} (q x) 1 0) es (k + 1) in
      let d : indeg g e.dst ≡ length (filter q es) = ap (λ h. indeg h e.dst) (sym listed.same)
      ∙ length-filter-graph_of q g.attrs es listed.apart in
      let most = good.in_degrees e.dst in
      omega arith

  next_is : (l : ℕ) → gathered_over p give (first (k + 1)) l
      ≡ with_one p.combine (gathered_over p give (first k) l) (give l e)
  next_is l = more_at destination (λ a x. with_one p.combine a (give l x)) (empty_of p.combine) es
      k no_edge small e.dst refl

  next_fits : (l : ℕ) → l < lanes p → FitsSigned w64
      (with_one p.combine (gathered_over p give (first k) l) (give l e))
  next_fits l lane =
      subst (FitsSigned w64) (next_is l)
      (gathered_over_is p g safe good row in_row l lane (first (k + 1))
      (All-filter (λ x. eqb x.dst e.dst) (IsFine p g safe good) (take (k + 1) es)
      (All-take (IsFine p g safe good) (k + 1) es all_fine)) few_so_far).1

  -- with what the code has so far, and what it adds
  module _ (table : List (List ℤ)) (so_far : IsFolded destination (with_edge p g row) (no_edges p)
      (take k es) (vertices g) table)
      (totals : List ℤ) (read : totals ≡ get_or table e.dst totals) (ones : List ℤ)
      (made : ones ≡ by_lane p (λ l. give l e)) where
    totals_are : totals ≡ by_lane p (gathered_over p give (first k))
    totals_are = read ∙ so_far.each e.dst totals ends_in_graph.1 ∙ folded_lanes p g row (first k)

    pub totals_long : length totals ≡ lanes p
    totals_long = ap length totals_are ∙ length-by_lane p _

    pub ones_long : length ones ≡ lanes p
    ones_long = ap length made ∙ length-by_lane p _

    pub sums_fit : (l : ℕ) → l < lanes p
        → FitsSigned w64 (with_one p.combine (number totals l) (number ones l))
    sums_fit l lane =
        subst (FitsSigned w64) (sym (λ j. with_one p.combine
        ((ap (λ xs. number xs l) totals_are ∙ at_lane p (gathered_over p give (first k)) l lane) j)
        ((ap (λ xs. number xs l) made ∙ at_lane p (λ i. give i e) l lane) j)))
        (next_fits l lane)

    pub table_next : (sums : List ℤ) → sums
        ≡ by_lane p (λ l. with_one p.combine (number totals l) (number ones l))
        → IsFolded destination (with_edge p g row) (no_edges p) (take (k + 1) es) (vertices g)
        (set table e.dst sums)
    table_next sums is =
        folded_more destination (with_edge p g row) (no_edges p) es k no_edge small (vertices g)
        table sums so_far ends_in_graph.1
        (is ∙ same_lanes p (λ l. with_one p.combine (number totals l) (number ones l))
        (λ l. with_one p.combine
        (number (folded destination (with_edge p g row) (no_edges p) (take k es) e.dst) l)
        (give l e))
        (λ l lane. λ j. with_one p.combine
        (number ((read ∙ so_far.each e.dst totals ends_in_graph.1) j) l)
        ((ap (λ xs. number xs l) made ∙ at_lane p (λ i. give i e) l lane) j)))
