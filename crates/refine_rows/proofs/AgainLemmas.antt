-- Which vertices are dirty, and which are evaluated again, by lists that are merged.
use Rattle.std.proofs.Common.{◌≡◌, ℕ, zero, suc, ◌+◌, ◌-◌, ◌<◌, ◌≤◌, Bool, true, false, not, ◌||◌}
use Rattle.std.proofs.Common.{◌&&◌, List, length, get_or, map, filter, take, inl, inr, refl, sym}
use Rattle.std.proofs.Common.{ap, ◌∙◌, subst, arith}
use Rattle.std.specs.List.{range_with_len}
use Rattle.std.proofs.lemmas.Bool.{cases_Bool, eq-eqb}
use Rattle.std.proofs.lemmas.List.{get_or-map, length-map, map-id, take_all}
use Rattle.std.proofs.lemmas.Simd.{map-map}
use Rattle.bolt_base.proofs.EdgeParts.{out_edges_stay}
use Rattle.bolt_base.specs.Change.{attr_at, changed_attrs, is_source, sources}
use Rattle.bolt_base.specs.Differs.{attr_changed, degree_changed, is_new}
use Rattle.bolt_base.specs.Graph.{Graph, IsGood, outdeg, vertices}
use Rattle.bolt_base.specs.declared.edge.AttrChange.{AttrChange}
use Rattle.bolt_base.specs.declared.edge.Touched.{Touched}
use Rattle.vertex_expr.specs.declared.program.ProgramEntries.{ProgramEntries}
use Rattle.run_model.specs.Refined.{is_again}
use Rattle.run_model.specs.Steps.{dirty, is_applied, is_dirty, is_target, reads_attr}
use Rattle.run_model.specs.Steps.{reads_outdeg, step, value_changed}
use Rattle.run_model.proofs.Known.{changed_applied, changed_begun}
use Rattle.run_model.proofs.Still.{not_new}
use Rattle.refine_rows.specs.Over.{AreOver}
use Rattle.refine_rows.specs.Picked.{old_only, vertices_where}
use Rattle.refine_rows.specs.Progress.{again}
use Rattle.refine_rows.specs.Seen.{changed_values}
use Rattle.refine_rows.proofs.PickLemmas.{agree_within, filter_both, filter_within, picked_where}
use Rattle.refine_rows.proofs.PickLemmas.{where_old}

-- ---- the lists of a change
pub attrs_are : (g h : Graph)
    → map (λ (a : AttrChange). a.vertex) (changed_attrs g h)
    ≡ vertices_where (vertices g) (attr_changed g h)
attrs_are g h =
    let us : List ℕ = vertices_where (vertices g) (attr_changed g h) in
    let make : (ℕ → AttrChange) = λ v. record { vertex = v; old = attr_at g v; new = attr_at h v }
    in
    map-map (λ (a : AttrChange). a.vertex) make us ∙ map-id us

pub sources_are : (g h : Graph)
    → map (λ (t : Touched). t.vertex) (sources g h) ≡ vertices_where (vertices h) (is_source g h)
sources_are g h =
    let us : List ℕ = vertices_where (vertices h) (is_source g h) in
    let make : (ℕ → Touched) = λ u. record { vertex = u; old_degree = outdeg g u } in
    map-map (λ (t : Touched). t.vertex) make us ∙ map-id us

-- ---- dirty vertices
dirty_cases : (n v d r a q : Bool) → n ≡ false
    → ((v || (d && r)) || (a && q)) ≡ (not n && ((v || (d && r)) || (a && q)))
dirty_cases n v d r a q e = ap (λ b. not b && ((v || (d && r)) || (a && q))) (sym e)

pub dirty_where : (p : ProgramEntries) (g h : Graph) (i : ℕ)
    → vertices_where (vertices g) (λ u. (value_changed (step p g h i) u
    || (degree_changed g h u && reads_outdeg p)) || (attr_changed g h u && reads_attr p))
    ≡ dirty p (step p g h i)
dirty_where p g h i = agree_within (vertices g) 0 _ (is_dirty p (step p g h i))
    (λ u low high. dirty_cases (is_new g u) (value_changed (step p g h i) u) (degree_changed g h u)
    (reads_outdeg p) (attr_changed g h u) (reads_attr p) (not_new (vertices g) u (omega arith)))

-- ---- vertices that are evaluated again
begun_cases : (n a : Bool) → ((not n && a) || n) ≡ (n || a)
begun_cases true a = refl
begun_cases false true = refl
begun_cases false false = refl

pub begun_where : (p : ProgramEntries) (g h : Graph)
    → vertices_where (vertices h) (λ v. old_only g (attr_changed g h) v || is_new g v)
    ≡ again p g h 0
begun_where p g h = agree_within (vertices h) 0 _ (is_again p g h 0)
    (λ v low high. begun_cases (is_new g v) (attr_changed g h v))

again_later : (p : ProgramEntries) (g h : Graph) (i v : ℕ) → 1 ≤ i
    → is_again p g h i v ≡ is_applied p (step p g h i) v
again_later p g h zero v some = absurd (omega arith)
again_later p g h (suc i) v some = refl

applied_cases : (n t v a : Bool) → ((t || (not n && v)) || (n || a)) ≡ (((n || t) || v) || a)
applied_cases true true v a = refl
applied_cases true false v a = refl
applied_cases false true v a = refl
applied_cases false false true a = refl
applied_cases false false false a = refl

pub applied_where : (p : ProgramEntries) (g h : Graph) (i : ℕ) → 1 ≤ i
    → vertices_where (vertices h) (λ v. (is_target p (step p g h i) v
    || old_only g (value_changed (step p g h i)) v) || is_again p g h 0 v)
    ≡ again p g h i
applied_where p g h i some = agree_within (vertices h) 0 _ (is_again p g h i)
    (λ v low high. applied_cases (is_new g v) (is_target p (step p g h i) v)
    (value_changed (step p g h i) v) (attr_changed g h v)
    ∙ sym (again_later p g h i v some))

-- ---- values that changed
pub again_there : (p : ProgramEntries) (g h : Graph) (i : ℕ) (vs : List ℕ) (k : ℕ)
    → vs ≡ again p g h i → k < length vs → get_or vs k 0 < vertices h
again_there p g h i vs k is l =
    let below = picked_where (vertices h) (is_again p g h i) k (subst (λ us. k < length us) is l) in
    subst (λ us. get_or us k 0 < vertices h) (sym is) below.below

-- they are among those that were evaluated again before
changed_again : (p : ProgramEntries) (g h : Graph) → IsGood p.limits g → (i v : ℕ) → v < vertices h
    → value_changed (step p g h (i + 1)) v ≡ true → is_again p g h i v ≡ true
changed_again p g h good zero v there t = changed_begun p g h 0 v there t
changed_again p g h good (suc i) v there t = changed_applied p g h good (suc i) v (omega arith)
    there t

among_again : (p : ProgramEntries) (g h : Graph) → AreOver p g h → (i : ℕ) → 1 ≤ i
    → filter (old_only g (value_changed (step p g h i))) (again p g h (i - 1))
    ≡ changed_values p g h i
among_again p g h over i some =
    let test : (ℕ → Bool) = old_only g (value_changed (step p g h i)) in
    filter_both (is_again p g h (i - 1)) test (range_with_len 0 (vertices h))
    ∙ agree_within (vertices h) 0 (λ v. is_again p g h (i - 1) v && test v) test
    (λ v low high. both (is_again p g h (i - 1) v) (is_new g v) (value_changed (step p g h i) v)
    (λ t. changed_again p g h over.old (i - 1) v (omega arith)
    (subst (λ k. value_changed (step p g h k) v ≡ true) (let e : i ≡ i - 1 + 1 = omega arith in e)
    t)))
    ∙ sym (where_old g (vertices h) over.more (value_changed (step p g h i)))
  where
    both : (a n c : Bool) → (c ≡ true → a ≡ true) → (a && (not n && c)) ≡ (not n && c)
    both true n c h = refl
    both false true c h = refl
    both false false true h = h refl
    both false false false h = refl

pub changed_where : (p : ProgramEntries) (g h : Graph) (i : ℕ) (vs us : List ℕ) (k : ℕ)
    → AreOver p g h → 1 ≤ i → vs ≡ again p g h (i - 1) → length vs ≤ k
    → us ≡ filter (old_only g (value_changed (step p g h i))) (map (λ (v : ℕ). v) (take k vs))
    → us ≡ changed_values p g h i
changed_where p g h i vs us k over some is past e =
    e ∙ ap (filter (old_only g (value_changed (step p g h i)))) (map-id (take k vs))
    ∙ ap (filter (old_only g (value_changed (step p g h i)))) (take_all k vs past ∙ is)
    ∙ among_again p g h over i some

-- ---- degrees that changed
degree_source : (g h : Graph) (u : ℕ) → degree_changed g h u ≡ true → is_source g h u ≡ true
degree_source g h u t = elim (cases_Bool (is_source g h u)) [
  | inl is ↦ is
  | inr other ↦
      let same : degree_changed g h u ≡ false =
      ap not (eq-eqb (outdeg g u) (outdeg h u) (sym (ap length (out_edges_stay g h u other)))) in
      absurd (let k = sym t ∙ same in cc)
]

degrees_among : (g h : Graph) → vertices g ≤ vertices h
    → filter (old_only g (degree_changed g h)) (vertices_where (vertices h) (is_source g h))
    ≡ vertices_where (vertices g) (degree_changed g h)
degrees_among g h more =
    filter_within (is_source g h) (old_only g (degree_changed g h)) (range_with_len 0 (vertices h))
    (λ u t. degree_source g h u (second (is_new g u) (degree_changed g h u) t))
    ∙ sym (where_old g (vertices h) more (degree_changed g h))
  where
    second : (n d : Bool) → (not n && d) ≡ true → d ≡ true
    second true d t = absurd (cc)
    second false d t = t

pub degrees_where : (g h : Graph) (ts : List Touched) (us : List ℕ) (k : ℕ)
    → vertices g ≤ vertices h → ts ≡ sources g h → length ts ≤ k
    → us ≡ filter (old_only g (degree_changed g h)) (map (λ (t : Touched). t.vertex) (take k ts))
    → us ≡ vertices_where (vertices g) (degree_changed g h)
degrees_where g h ts us k more is past e =
    e ∙ ap (λ xs. filter (old_only g (degree_changed g h)) (map (λ (t : Touched). t.vertex) xs))
    (take_all k ts past ∙ is)
    ∙ ap (filter (old_only g (degree_changed g h))) (sources_are g h)
    ∙ degrees_among g h more

-- a source is a vertex of the new graph, with its degree on the old one
pub record IsTouched (g h : Graph) (t : Touched) : Type 0 where
  pub there : t.vertex < vertices h
  pub degree : t.old_degree ≡ outdeg g t.vertex

pub touched_are : (g h : Graph) (ts : List Touched) (k : ℕ) (d : Touched) → ts ≡ sources g h
    → k < length ts → IsTouched g h (get_or ts k d)
touched_are g h ts k d is l =
    let us : List ℕ = vertices_where (vertices h) (is_source g h) in
    let make : (ℕ → Touched) = λ u. record { vertex = u; old_degree = outdeg g u } in
    let long : length us ≡ length (sources g h) = sym (length-map us make) in
    let l2 : k < length (sources g h) = subst (λ xs. k < length xs) is l in
    let small : k < length us = omega arith in
    let read : get_or (sources g h) k d ≡ make (get_or us k 0) = get_or-map make us k 0 d small in
    let there = (picked_where (vertices h) (is_source g h) k small).below in
    subst (λ xs. IsTouched g h (get_or xs k d)) (sym is)
    (subst (IsTouched g h) (sym read) (record { there = there; degree = refl }))
