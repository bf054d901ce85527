-- The edges that are read out of some vertices, or into them, among all edges.
use Rattle.std.proofs.Common.{◌≡◌, ℕ, zero, suc, ◌+◌, ◌-◌, ◌*◌, ◌<◌, ◌≤◌, Bool, true, false, not}
use Rattle.std.proofs.Common.{◌&&◌, ◌||◌, cond, eqb, List, [], ◌∷◌, filter, length, refl, sym}
use Rattle.std.proofs.Common.{ap, ◌∙◌, arith, inl, inr}
use Rattle.std.specs.Prelude.{sum_by}
use Rattle.std.specs.List.{All, AllByRecursion, range_with_len}
use Rattle.std.proofs.lemmas.Bool.{eq-eqb, ne_eqb, cases_eq}
use Rattle.std.proofs.lemmas.List.Elements.{recursion_from_All}
use Rattle.std.proofs.lemmas.List.Sums.{sum_by-cons, sum_by-append, sum_by_push, sum_by-le-sum_by}
use Rattle.bolt_base.specs.Graph.{Graph, IsGood, edges, vertices, indeg, outdeg}
use Rattle.bolt_base.specs.declared.edge.Edge.{Edge}
use Rattle.vertex_expr.specs.declared.program.Combine.TheVariants.{Sum}
use Rattle.vertex_expr.specs.declared.program.ProgramEntries.{ProgramEntries}
use Rattle.run_model.specs.Program.{is_sum}
use Rattle.run_model.specs.Steps.{Step, step, is_dirty, is_target, is_active, active}
use Rattle.run_model.specs.Steps.{is_tail_target, value_changed, degree_changed, attr_changed}
use Rattle.run_model.specs.Steps.{reads_outdeg, reads_attr}
use Rattle.run_model.specs.VisitLaws.{AreRead}
use Rattle.run_model.specs.Visits.{in_visits, out_visits, sum_visits, pull_visits, tail_pull_visits}
use Rattle.run_model.specs.Visits.{tail_sum_visits, step_visits, tail_step_visits}
use Rattle.run_model.specs.Visits.{tail_visits, visits, degrees, changed}
use Rattle.bolt_base.proofs.Degrees.{all_keys, sum_by-plus, sum_by-same}
use Rattle.run_model.proofs.Iteration.{new_is}
use Rattle.run_model.proofs.VisitLemmas.{within_twice}

pub are_read : (h : Graph) (us vs : List ℕ) (v : ℕ) → AreRead h us vs v
are_read h us vs v = record {
  out_of_one = sum_by_push (outdeg h) us v;
  into_one = sum_by_push (indeg h) us v;
  out_of_both = sum_by-append (outdeg h) us vs;
  into_both = sum_by-append (indeg h) us vs;
}

-- numbers that don't pass add nothing
sum_by-passing : (f : ℕ → ℕ) (q : ℕ → Bool) (us : List ℕ)
    → sum_by f (filter q us) ≡ sum_by (λ u. cond {A = ℕ} (q u) (f u) 0) us
sum_by-passing f q [] = refl
sum_by-passing f q (u ∷ us) =
    let rest = sum_by-passing f q us in
    elim (q u) as (λ b. sum_by (λ x. cond {A = ℕ} (q x) (f x) 0) (u ∷ us)
    ≡ cond {A = ℕ} b (f u) 0 + sum_by (λ x. cond {A = ℕ} (q x) (f x) 0) us
    → sum_by f (cond b (u ∷ filter q us) (filter q us))
    ≡ sum_by (λ x. cond {A = ℕ} (q x) (f x) 0) (u ∷ us)) [
      | true ↦ λ e. sum_by-cons f u (filter q us) ∙ ap (λ n. f u + n) rest ∙ sym e
      | false ↦ λ e. omega (arith, rest, e)
    ] (sum_by-cons (λ x. cond {A = ℕ} (q x) (f x) 0) u us)

-- nothing passes from a place on
filter_beyond : (q : ℕ → Bool) (a n m : ℕ) → n ≤ m → ((v : ℕ) → a + n ≤ v → q v ≡ false)
    → filter q (range_with_len a n) ≡ filter q (range_with_len a m)
filter_beyond q a zero zero l h = refl
filter_beyond q a zero (suc m) l h = rw (h a (omega arith))
    (filter_beyond q (a + 1) zero m (omega arith) (λ v w. h v (omega arith)))
filter_beyond q a (suc n) zero l h = absurd (omega arith)
filter_beyond q a (suc n) (suc m) l h =
    let rest = filter_beyond q (a + 1) n m (omega arith) (λ v w. h v (omega arith)) in
    ap (λ us. cond (q a) (a ∷ us) us) rest

module _ (key : Edge → ℕ) (q : ℕ → Bool) where
  -- of the edges with a key that passes none is lost
  keyed_passes : (v : ℕ) (es : List Edge)
      → cond {A = ℕ} (q v) (length (filter (λ e. eqb (key e) v) es)) 0
      ≡ length (filter (λ e. eqb (key e) v) (filter (λ e. q (key e)) es))
  keyed_passes v [] = elim (q v) as (λ b. cond {A = ℕ} b 0 0 ≡ 0) [ true ↦ refl | false ↦ refl ]
  keyed_passes v (e ∷ es) =
      let has : Edge → Bool = λ x. eqb (key x) v in
      let passes : Edge → Bool = λ x. q (key x) in
      let rest = keyed_passes v es in
      elim (cases_eq (key e) v) [
        | inl same ↦
            let k : eqb (key e) v ≡ true = eq-eqb (key e) v same in
            let t : q (key e) ≡ q v = ap q same in
            (λ j. cond {A = ℕ} (q v) (length (cond (k j) (e ∷ filter has es) (filter has es))) 0)
            ∙ elim (q v) as (λ b. cond {A = ℕ} b (length (filter has es)) 0
            ≡ length (filter has (filter passes es))
            → cond {A = ℕ} b (suc (length (filter has es))) 0
            ≡ length (filter has (cond b (e ∷ filter passes es) (filter passes es)))) [
              | true ↦ λ h. ap suc h
                  ∙ sym (λ j. length
                  (cond (k j) (e ∷ filter has (filter passes es))
                  (filter has (filter passes es))))
              | false ↦ λ h. h
            ] rest
            ∙ sym (λ j. length (filter has (cond (t j) (e ∷ filter passes es) (filter passes es))))
        | inr apart ↦
            let k : eqb (key e) v ≡ false = ne_eqb (key e) v apart in
            (λ j. cond {A = ℕ} (q v) (length (cond (k j) (e ∷ filter has es) (filter has es))) 0)
            ∙ rest
            ∙ elim (q (key e)) as (λ b. length (filter has (filter passes es))
            ≡ length (filter has (cond b (e ∷ filter passes es) (filter passes es)))) [
              | true ↦ sym (λ j. length
                  (cond (k j) (e ∷ filter has (filter passes es)) (filter has (filter passes es))))
              | false ↦ refl
            ]
      ]

  keys_below : (n : ℕ) (es : List Edge) → AllByRecursion (λ e. key e < n) es
      → AllByRecursion (λ e. key e < n) (filter (λ e. q (key e)) es)
  keys_below n [] h = h
  keys_below n (e ∷ es) h =
      let rest = keys_below n es h.1 in
      elim (q (key e)) as (λ b. AllByRecursion (λ x. key x < n)
      (cond b (e ∷ filter (λ x. q (key x)) es) (filter (λ x. q (key x)) es))) [
        | true ↦ (h.0, rest)
        | false ↦ rest
      ]

  pub passing_keys : (n : ℕ) (es : List Edge) → AllByRecursion (λ e. key e < n) es
      → sum_by (λ v. length (filter (λ e. eqb (key e) v) es)) (filter q (range_with_len 0 n))
      ≡ length (filter (λ e. q (key e)) es)
  passing_keys n es h =
      sum_by-passing (λ v. length (filter (λ e. eqb (key e) v) es)) q (range_with_len 0 n)
      ∙ sum_by-same (λ v. cond {A = ℕ} (q v) (length (filter (λ e. eqb (key e) v) es)) 0)
      (λ v. length (filter (λ e. eqb (key e) v) (filter (λ e. q (key e)) es)))
      (λ v. keyed_passes v es) (range_with_len 0 n)
      ∙ all_keys key n (filter (λ e. q (key e)) es) (keys_below n es h)

module _ (g : Graph) (ends : All (λ e. (e.src < vertices g) × (e.dst < vertices g)) (edges g))
    (q : ℕ → Bool) where
  reads_into : in_visits g (filter q (range_with_len 0 (vertices g)))
      ≡ length (filter (λ e. q e.dst) (edges g))
  reads_into = passing_keys (λ (e : Edge). e.dst) q (vertices g) (edges g)
      (recursion_from_All (λ (e : Edge). e.dst < vertices g) (edges g) (λ k d l. (ends k d l).1))

  reads_out : out_visits g (filter q (range_with_len 0 (vertices g)))
      ≡ length (filter (λ e. q e.src) (edges g))
  reads_out = passing_keys (λ (e : Edge). e.src) q (vertices g) (edges g)
      (recursion_from_All (λ (e : Edge). e.src < vertices g) (edges g) (λ k d l. (ends k d l).0))

new_are_calm : (p : ProgramEntries) (s : Step) (v : ℕ) → vertices s.old_graph ≤ v
    → is_dirty p s v ≡ false
new_are_calm p s v past = ap (λ b. not b &&
    (value_changed s v || degree_changed s v && reads_outdeg p || attr_changed s v && reads_attr
    p)) (new_is s.old_graph v past)

pub pull_reads : (p : ProgramEntries) (s : Step) → vertices s.old_graph ≤ vertices s.new_graph
    → IsGood p.limits s.new_graph
    → pull_visits p s ≡ length (filter (λ e. is_dirty p s e.src) (edges s.new_graph)) + length
    (filter (λ e. is_target p s e.dst) (edges s.new_graph))
pull_reads p s more good =
    let longer = filter_beyond (is_dirty p s) 0 (vertices s.old_graph) (vertices s.new_graph) more
    (λ v past. new_are_calm p s v (omega arith)) in
    λ j. (ap (out_visits s.new_graph) longer ∙ reads_out s.new_graph good.ends (is_dirty p s)) j +
    reads_into s.new_graph good.ends (is_target p s) j

pub tail_pull_reads : (p : ProgramEntries) (h : Graph) (i : ℕ) → IsGood p.limits h
    → tail_pull_visits p h i ≡ length (filter (λ e. is_active p h i e.src) (edges h)) + length
    (filter (λ e. is_tail_target p h i e.dst) (edges h))
tail_pull_reads p h i good = λ j. reads_out h good.ends (is_active p h i) j + reads_into h
    good.ends (is_tail_target p h i) j

-- ---- the bound of a batch
module _ (p : ProgramEntries) (g h : Graph) (cut : ℕ) (sum : p.combine ≡ Sum)
    (more : vertices g ≤ vertices h) (good_g : IsGood p.limits g) (good_h : IsGood p.limits h) where
  abbrev twice : ℕ → ℕ
  twice i = sum_by (degrees g h) (changed p (step p g h i))

  step_is : (i : ℕ) → step_visits p (step p g h i) ≤ twice i + twice i
  step_is i =
      let few = within_twice p (step p g h i) more good_g good_h in
      let is : step_visits p (step p g h i)
      ≡ sum_visits p (step p g h i) = ap
      (λ c. cond {A = ℕ} (is_sum c) (sum_visits p (step p g h i))
      (pull_visits p (step p g h i))) sum in
      omega arith

  pub batch_visits_few : visits p g h cut ≤ 2 * sum_by twice (range_with_len 1 cut) + sum_by
      (λ i. out_visits h (active p h i)) (range_with_len (cut + 1) (p.rounds - cut))
  batch_visits_few =
      let refine = sum_by-le-sum_by (λ i. step_visits p (step p g h i)) (λ i. twice i + twice i)
      (range_with_len 1 cut) step_is in
      let both = sum_by-plus twice twice (range_with_len 1 cut) in
      let tail : tail_visits p h cut
      ≡ sum_by (λ i. out_visits h (active p h i)) (range_with_len (cut + 1) (p.rounds - cut)) =
      sum_by-same (tail_step_visits p h) (λ i. out_visits h (active p h i))
      (λ i. ap (λ c. cond {A = ℕ} (is_sum c) (tail_sum_visits p h i) (tail_pull_visits p h i))
      sum) (range_with_len (cut + 1) (p.rounds - cut)) in
      omega arith
