-- An accepted program has few iterations, and a good graph few vertices, edges and degrees.
use Rattle.std.proofs.Common.{ℕ, ◌+◌, ◌-◌, ◌*◌, ◌≤◌, Bool, true, false, not, cond, List, filter}
use Rattle.std.proofs.Common.{length, get_or, sym, subst, arith}
use Rattle.std.specs.Prelude.{sum_by}
use Rattle.std.specs.List.{range_with_len}
use Rattle.std.proofs.lemmas.List.FromFn.{length-range_with_len}
use Rattle.std.proofs.lemmas.List.Sums.{sum_by-le}
use Rattle.std.proofs.lemmas.Nat.{mul-le}
use Rattle.bolt_base.specs.Change.{stays, removed, added}
use Rattle.bolt_base.specs.Graph.{Graph, IsGood, edges, vertices, outdeg, indeg}
use Rattle.bolt_base.proofs.EdgeMap.{edges_at-filter}
use Rattle.bolt_base.proofs.EdgeParts.{length-parts}
use Rattle.vertex_expr.specs.declared.program.ProgramEntries.{ProgramEntries}
use Rattle.range_check.specs.Breaks.{IsAccepted}
use Rattle.run_model.specs.Program.{is_sum}
use Rattle.run_model.specs.Steps.{Step, step, is_dirty, dirty, is_target, targets, is_active}
use Rattle.run_model.specs.Steps.{active, is_tail_target, tail_targets}
use Rattle.run_model.specs.Visits.{out_visits, in_visits, sum_visits, pull_visits, step_visits}
use Rattle.run_model.specs.Visits.{tail_sum_visits, tail_pull_visits, tail_step_visits}
use Rattle.run_model.specs.Visits.{refine_visits, tail_visits}
use Rattle.visit_bounds.specs.Bounds.{BatchVisitsFit, OpeningVisitsFit}

-- no graph has more vertices than this, or a vertex more edges out of it or into it
abbrev most : ℕ
most = 1000000

-- vertices of a graph have no more edges out of them, or into them
abbrev most_read : ℕ
most_read = 1000000000000

-- and an iteration reads no more
abbrev most_visits : ℕ
most_visits = 2 * most_read

-- a filter leaves no more
passing_fewer : {X : Type 0} (q : X → Bool) (xs : List X) → length (filter q xs) ≤ length xs
passing_fewer q xs = let parts = length-parts q xs in omega arith

-- some of few vertices
vertices_few : (q : ℕ → Bool) (n : ℕ) → n ≤ most → length (filter q (range_with_len 0 n)) ≤ most
vertices_few q n few =
    let passing = passing_fewer q (range_with_len 0 n) in
    let all = length-range_with_len 0 n in
    omega arith

-- few vertices of a small degree
degrees_few : (f : ℕ → ℕ) (us : List ℕ) → ((u : ℕ) → f u ≤ most) → length us ≤ most
    → sum_by f us ≤ most_read
degrees_few f us small few =
    let sum = sum_by-le f most us (λ k d l. small (get_or us k d)) in
    omega arith

-- n iterations
iterations_few : (f : ℕ → ℕ) → ((i : ℕ) → f i ≤ most_visits) → (a n : ℕ)
    → sum_by f (range_with_len a n) ≤ n * most_visits
iterations_few f small a n =
    let sum = sum_by-le f most_visits (range_with_len a n)
    (λ k d l. small (get_or (range_with_len a n) k d)) in
    let all = length-range_with_len a n in
    omega arith

-- whether it is a sum program or not
either_few : (sum : Bool) (m n : ℕ) → m ≤ most_visits → n ≤ most_visits
    → cond sum m n ≤ most_visits
either_few true m n few _ = few
either_few false m n _ few = few

removed_few : (g h : Graph) → length (removed g h) ≤ length (edges g)
removed_few g h = subst (λ es. length es ≤ length (edges g))
    (sym (edges_at-filter g (λ k. not (stays g h k))))
    (passing_fewer (λ e. not (stays g h (e.src, e.dst))) (edges g))

added_few : (g h : Graph) → length (added g h) ≤ length (edges h)
added_few g h = subst (λ es. length es ≤ length (edges h))
    (sym (edges_at-filter h (λ k. not (stays g h k))))
    (passing_fewer (λ e. not (stays g h (e.src, e.dst))) (edges h))

module _ (p : ProgramEntries) (accepted : IsAccepted p) where
  good_vertices : (g : Graph) → IsGood p.limits g → vertices g ≤ most
  good_vertices g good =
      let limit = accepted.writable.limits.vertices.most in
      let few = good.few_vertices in
      omega arith

  good_edges : (g : Graph) → IsGood p.limits g → length (edges g) ≤ 8000000
  good_edges g good =
      let limit = accepted.writable.limits.edges.most in
      let few = good.few_edges in
      omega arith

  out_few : (g : Graph) → IsGood p.limits g → (us : List ℕ) → length us ≤ most
      → out_visits g us ≤ most_read
  out_few g good us few = degrees_few (outdeg g) us
      (λ u. let limit = accepted.writable.limits.degree.most in let deg = good.out_degrees u in
      omega arith) few

  in_few : (g : Graph) → IsGood p.limits g → (vs : List ℕ) → length vs ≤ most
      → in_visits g vs ≤ most_read
  in_few g good vs few = degrees_few (indeg g) vs
      (λ v. let limit = accepted.writable.limits.degree.most in let deg = good.in_degrees v in
      omega arith) few

  module _ (s : Step) (good_old : IsGood p.limits s.old_graph)
      (good_new : IsGood p.limits s.new_graph) where
    dirty_few : out_visits s.new_graph (dirty p s) ≤ most_read
    dirty_few = out_few s.new_graph good_new (dirty p s)
        (vertices_few (is_dirty p s) (vertices s.old_graph)
        (good_vertices s.old_graph good_old))

    step_sum_few : sum_visits p s ≤ most_visits
    step_sum_few =
        let gone = removed_few s.old_graph s.new_graph in
        let came = added_few s.old_graph s.new_graph in
        let old = good_edges s.old_graph good_old in
        let new = good_edges s.new_graph good_new in
        let out = dirty_few in
        omega arith

    step_pull_few : pull_visits p s ≤ most_visits
    step_pull_few =
        let out = dirty_few in
        let into = in_few s.new_graph good_new (targets p s)
        (vertices_few (is_target p s) (vertices s.new_graph)
        (good_vertices s.new_graph good_new)) in
        omega arith

    step_few : step_visits p s ≤ most_visits
    step_few = either_few (is_sum p.combine) (sum_visits p s) (pull_visits p s) step_sum_few
        step_pull_few

  module _ (h : Graph) (good : IsGood p.limits h) (i : ℕ) where
    active_few : out_visits h (active p h i) ≤ most_read
    active_few = out_few h good (active p h i)
        (vertices_few (is_active p h i) (vertices h) (good_vertices h good))

    tail_pull_few : tail_pull_visits p h i ≤ most_visits
    tail_pull_few =
        let out = active_few in
        let into = in_few h good (tail_targets p h i)
        (vertices_few (is_tail_target p h i) (vertices h) (good_vertices h good)) in
        omega arith

    tail_step_few : tail_step_visits p h i ≤ most_visits
    tail_step_few = either_few (is_sum p.combine) (tail_sum_visits p h i)
        (tail_pull_visits p h i) (let out = active_few in omega arith) tail_pull_few

pub batch_visits_fit : BatchVisitsFit
batch_visits_fit p g h cut accepted good_g good_h before =
    let refine : refine_visits p g h cut ≤ cut * most_visits =
    iterations_few (λ k. step_visits p (step p g h k))
    (λ k. step_few p accepted (step p g h k) good_g good_h) 1 cut in
    let tail : tail_visits p h cut ≤ (p.rounds - cut) * most_visits =
    iterations_few (tail_step_visits p h) (tail_step_few p accepted h good_h) (cut + 1)
    (p.rounds - cut) in
    let rounds = accepted.writable.rounds.most in
    omega arith

-- at most 64 rounds, in each of which at most 8,000,000 edges are read
pub opening_visits_fit : OpeningVisitsFit
opening_visits_fit p g accepted good =
    let rounds = accepted.writable.rounds.most in
    let few = good_edges p accepted g good in
    let product = mul-le p.rounds (length (edges g)) 64 8000000 rounds few in
    omega arith
