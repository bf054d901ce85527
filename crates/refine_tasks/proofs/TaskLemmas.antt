-- The tasks of an iteration, from its sources and the places of changed edges.
use Rattle.std.proofs.Common.{◌≡◌, ℕ, zero, suc, ◌+◌, ◌<◌, ◌≤◌, Bool, true, false, not, ◌||◌, ◌&&◌}
use Rattle.std.proofs.Common.{cond}
use Rattle.std.proofs.Common.{List, [], ◌∷◌, length, get_or, map, filter, refl, sym, ap, ◌∙◌}
use Rattle.std.proofs.Common.{subst, arith, eqb}
use Rattle.std.specs.List.{All, AllByRecursion, Contains, list_any, range_with_len}
use Rattle.std.specs.List.Sorted.{IsNonDecreasing, IsStrictlySortedBy}
use Rattle.std.specs.Map.{keys_of}
use Rattle.std.specs.Ordering.{nat_cmp}
use Rattle.std.specs.declared.cmp.Ordering.TheVariants.{Less}
use Rattle.std.proofs.lemmas.Bool.{eq-eqb, lt-ltb}
use Rattle.std.proofs.lemmas.List.{get_or_default, get_or-map, length-map, map-id}
use Rattle.std.proofs.lemmas.List.Elements.{All-filter, All-map}
use Rattle.std.proofs.lemmas.List.Folds.{list_any_at}
use Rattle.std.proofs.lemmas.List.FromFn.{fill_by_all, length-range_with_len}
use Rattle.std.proofs.lemmas.List.Kept.{IsStrictlySortedBy-filter}
use Rattle.std.proofs.lemmas.List.Sorted.{IsNonDecreasingBy-from_sort}
use Rattle.std.proofs.lemmas.Simd.{map-map}
use Rattle.bolt_base.specs.Change.{added, removed, is_source, attr_at}
use Rattle.bolt_base.specs.Graph.{IsGood, edges, vertices}
use Rattle.bolt_base.specs.LawsOfChange.{edge_stays}
use Rattle.bolt_base.specs.declared.edge.Edge.{Edge}
use Rattle.bolt_base.proofs.EdgeParts.{added-filter, removed-filter}
use Rattle.bolt_base.proofs.SortedKeys.{ordered_sorted}
use Rattle.vertex_expr.specs.declared.program.ProgramEntries.{ProgramEntries}
use Rattle.run_model.specs.Rows.{at}
use Rattle.run_model.specs.Steps.{Step, dirty, is_dirty, value_changed, degree_changed}
use Rattle.run_model.specs.Steps.{attr_changed}
use Rattle.run_model.specs.Steps.{reads_attr, reads_outdeg}
use Rattle.run_model.specs.Visits.{changed}
use Rattle.run_model.proofs.Still.{is_le, not_new}
use Rattle.edge_map.specs.Additions.{no_source}
use Rattle.edge_map.specs.Agrees.{IsPlaced, SourcesRise}
use Rattle.edge_map.specs.TaskLaws.{AreTasksOf, IsSide}
use Rattle.edge_map.specs.declared.tasks.Source.{Source}
use Rattle.edge_map.specs.declared.tasks.TaskEdge.{TaskEdge}
use Rattle.edge_map.specs.declared.tasks.Tasks.{Tasks}
use Rattle.refine_rows.specs.Picked.{vertices_where}
use Rattle.refine_rows.proofs.PickLemmas.{agree_within, contains_where, filter_within, picked_where}
use Rattle.refine_rows.proofs.PickLemmas.{sorted_where, where_old}
use Rattle.refine_tasks.specs.Sides.{IsPlacedIn, side_of}

-- ---- ranges in order
range_above : (n m a : ℕ) → a < m
    → AllByRecursion (λ y. nat_cmp a y ≡ Less) (range_with_len m n)
range_above zero m a h = tt
range_above (suc n) m a h = (rw (lt-ltb a m h) refl, range_above n (m + 1) a (omega arith))

pub range_sorted : (n m : ℕ) → IsStrictlySortedBy nat_cmp (range_with_len m n)
unfolding IsStrictlySortedBy
range_sorted zero m = tt
range_sorted (suc n) m = (range_above n (m + 1) m (omega arith), range_sorted n (m + 1))

-- ---- lists
filter_of_map : {X Y : Type 0} (q : Y → Bool) (f : X → Y) (xs : List X)
    → filter q (map f xs) ≡ map f (filter (λ x. q (f x)) xs)
filter_of_map q f [] = refl
filter_of_map q f (x ∷ xs) = elim (q (f x)) as
    (λ b. cond b (f x ∷ filter q (map f xs)) (filter q (map f xs))
    ≡ map f (cond b (x ∷ filter (λ y. q (f y)) xs) (filter (λ y. q (f y)) xs))) [
      | true ↦ ap (λ ys. f x ∷ ys) (filter_of_map q f xs)
      | false ↦ filter_of_map q f xs
    ]

-- what passes, by place
picked_places : {X Y : Type 0} (f : X → Y) (q : X → Bool) (d : X) (xs : List X)
    → map (λ k. f (get_or xs k d)) (filter (λ k. q (get_or xs k d)) (range_with_len 0 (length xs)))
    ≡ map f (filter q xs)
picked_places f q d xs =
    let read : (ℕ → _) = λ k. get_or xs k d in
    sym (ap (λ ys. map f (filter q ys)) (fill_by_all read xs (length xs) d refl (λ k h. refl))
    ∙ ap (map f) (filter_of_map q read (range_with_len 0 (length xs)))
    ∙ map-map f read (filter (λ k. q (read k)) (range_with_len 0 (length xs))))

few_pass : (q : ℕ → Bool) (xs : List ℕ) → length (filter q xs) ≤ length xs
few_pass q [] = omega arith
few_pass q (x ∷ xs) = let rest = few_pass q xs in
    elim (q x) as (λ b. length (cond b (x ∷ filter q xs) (filter q xs)) ≤ length (x ∷ xs)) [
      | true ↦ omega arith
      | false ↦ omega arith
    ]

pub few_where : (n : ℕ) (q : ℕ → Bool) → length (vertices_where n q) ≤ n
few_where n q = let few = few_pass q (range_with_len 0 n) in let long = length-range_with_len 0 n in
    omega arith

pub where_rises : (n : ℕ) (q : ℕ → Bool) (us : List ℕ) → us ≡ vertices_where n q
    → IsNonDecreasing us
where_rises n q us e = subst IsNonDecreasing (sym e)
    (IsNonDecreasingBy-from_sort (λ (v : ℕ). v) (vertices_where n q) (sorted_where n q))

pub where_below : (n : ℕ) (q : ℕ → Bool) (us : List ℕ) → us ≡ vertices_where n q
    → All (λ u. u < n) us
where_below n q us e = subst (All (λ u. u < n)) (sym e)
    (λ k d h. let first = get_or_default (vertices_where n q) k d 0 h in
    let below = (picked_where n q k h).below in omega arith)

-- ---- the sources of changed edges
source_or : (a b : Bool) → b ≡ true → (a || b) ≡ true
source_or true b e = refl
source_or false b e = e

module _ (p : ProgramEntries) (s : Step) (old_good : IsGood p.limits s.old_graph)
    (new_good : IsGood p.limits s.new_graph) (more : vertices s.old_graph ≤ vertices s.new_graph)
    (us : List ℕ) (are : us ≡ changed p s) where
  abbrev is_changed : ℕ → Bool
  is_changed u = is_source s.old_graph s.new_graph u || is_dirty p s u

  source_there : (u : ℕ) → u < vertices s.new_graph
      → is_source s.old_graph s.new_graph u ≡ true → Contains us u
  source_there u there t = subst (λ l. Contains l u) (sym are)
      (contains_where (vertices s.new_graph) is_changed u there (ap (λ b. b || is_dirty p s u) t))

  has_source : (es : List Edge) (k : ℕ) (d : Edge) → k < length es
      → list_any (λ e. eqb e.src (get_or es k d).src) es ≡ true
  has_source es k d h = list_any_at (λ e. eqb e.src (get_or es k d).src) es k d h
      (eq-eqb (get_or es k d).src (get_or es k d).src refl)

  pub removed_there : All (λ e. Contains us e.src) (removed s.old_graph s.new_graph)
  removed_there k d h =
      let es : List Edge = removed s.old_graph s.new_graph in
      let u : ℕ = (get_or es k d).src in
      let all : All (λ (e : Edge). e.src < vertices s.old_graph) es =
      subst (All (λ (e : Edge). e.src < vertices s.old_graph))
      (sym (removed-filter s.old_graph s.new_graph))
      (All-filter (λ e. not (edge_stays s.old_graph s.new_graph e))
      (λ (e : Edge). e.src < vertices s.old_graph) (edges s.old_graph)
      (λ i f l. (old_good.ends i f l).0)) in
      let below = all k d h in
      source_there u (omega arith)
      (ap (λ b. b || list_any (λ e. eqb e.src u) (added s.old_graph s.new_graph))
      (has_source es k d h))

  pub added_there : All (λ e. Contains us e.src) (added s.old_graph s.new_graph)
  added_there k d h =
      let es : List Edge = added s.old_graph s.new_graph in
      let u : ℕ = (get_or es k d).src in
      let all : All (λ (e : Edge). e.src < vertices s.new_graph) es =
      subst (All (λ (e : Edge). e.src < vertices s.new_graph))
      (sym (added-filter s.old_graph s.new_graph))
      (All-filter (λ e. not (edge_stays s.old_graph s.new_graph e))
      (λ (e : Edge). e.src < vertices s.new_graph) (edges s.new_graph)
      (λ i f l. (new_good.ends i f l).0)) in
      source_there u (all k d h)
      (source_or (list_any (λ e. eqb e.src u) (removed s.old_graph s.new_graph))
      (list_any (λ e. eqb e.src u) es) (has_source es k d h))

-- ---- the sources
module _ (p : ProgramEntries) (s : Step) where
  is_side : (u : ℕ) → u < vertices s.new_graph → IsSide s (side_of p s u)
  is_side u there = record {
    there = there;
    new = refl;
    new_degree = refl;
    new_attr = refl;
    old = λ before. ap (λ b. cond b (at s.new_row u) (at s.old_row u))
        (not_new (vertices s.old_graph) u before);
    old_degree = refl;
    old_attr = λ before. ap (λ b. cond b (attr_at s.new_graph u) (attr_at s.old_graph u))
        (not_new (vertices s.old_graph) u before);
    no_old = λ past. ap (λ b. cond b (at s.new_row u) (at s.old_row u))
        (is_le (vertices s.old_graph) u past);
    no_attr = λ past. ap (λ b. cond b (attr_at s.new_graph u) (attr_at s.old_graph u))
        (is_le (vertices s.old_graph) u past);
  }

  same_keys : (us : List ℕ)
      → keys_of (map (λ (x : Source). (x.vertex, x)) (map (side_of p s) us)) ≡ us
  same_keys [] = refl
  same_keys (u ∷ us) = ap (λ l. u ∷ l) (same_keys us)

  sides_rise : (n : ℕ) (q : ℕ → Bool) → SourcesRise (map (side_of p s) (vertices_where n q))
  sides_rise n q = ordered_sorted _
      (subst (IsStrictlySortedBy nat_cmp) (sym (same_keys (vertices_where n q)))
      (IsStrictlySortedBy-filter nat_cmp q (range_with_len 0 n) (range_sorted n 0)))

  -- all dirty vertices are among those of the new graph
  pub dirty_new : vertices s.old_graph ≤ vertices s.new_graph
      → vertices_where (vertices s.new_graph) (is_dirty p s) ≡ dirty p s
  dirty_new more =
      let rest : (ℕ → Bool) = λ u. (value_changed s u || (degree_changed s u && reads_outdeg p))
      || (attr_changed s u && reads_attr p) in
      sym (where_old s.old_graph (vertices s.new_graph) more rest)
      ∙ agree_within (vertices s.old_graph) 0 rest (is_dirty p s)
      (λ u low high. sym (ap (λ b. not b && rest u)
      (not_new (vertices s.old_graph) u (omega arith))))

  -- and the dirty ones among the sources
  dirty_among : vertices s.old_graph ≤ vertices s.new_graph
      → map (λ (x : Source). x.vertex) (filter (λ (x : Source). x.dirty)
      (map (side_of p s) (changed p s))) ≡ dirty p s
  dirty_among more =
      let q : (ℕ → Bool) = λ u. is_source s.old_graph s.new_graph u || is_dirty p s u in
      ap (map (λ (x : Source). x.vertex))
      (filter_of_map (λ (x : Source). x.dirty) (side_of p s) (changed p s))
      ∙ map-map (λ (x : Source). x.vertex) (side_of p s) (filter (is_dirty p s) (changed p s))
      ∙ map-id (filter (is_dirty p s) (changed p s))
      ∙ filter_within q (is_dirty p s) (range_with_len 0 (vertices s.new_graph))
      (λ u t. source_or (is_source s.old_graph s.new_graph u) (is_dirty p s u) t)
      ∙ dirty_new more

  -- ---- the tasks
  module _ (more : vertices s.old_graph ≤ vertices s.new_graph) (t : Tasks) (us : List ℕ)
      (are : us ≡ changed p s) (sources : t.sources ≡ map (side_of p s) us) where
    sources_are : t.sources ≡ map (side_of p s) (changed p s)
    sources_are = sources ∙ ap (map (side_of p s)) are

    placed_here : (xs : List TaskEdge) → All (IsPlacedIn us) xs → All (IsPlaced t) xs
    placed_here xs all k d h =
        let x = get_or xs k d in
        let at = all k d h in
        let place = at.place in
        let count = ap length sources in
        let long = length-map us (side_of p s) in
        record {
          place = omega arith;
          source = ap (λ (l : List Source). (get_or l x.source no_source).vertex) sources
              ∙ ap (λ (y : Source). y.vertex)
              (get_or-map (side_of p s) us x.source 0 no_source place)
              ∙ at.source;
        }

    pub are_tasks : map (λ (x : TaskEdge). x.edge) t.removed ≡ removed s.old_graph s.new_graph
        → map (λ (x : TaskEdge). x.edge) t.added ≡ added s.old_graph s.new_graph
        → All (IsPlacedIn us) t.removed → All (IsPlacedIn us) t.added → AreTasksOf p s t
    are_tasks gone come gone_placed come_placed = record {
      sources_rise = subst SourcesRise (sym sources_are)
          (sides_rise (vertices s.new_graph)
          (λ u. is_source s.old_graph s.new_graph u || is_dirty p s u));
      sides = subst (All (IsSide s)) (sym sources)
          (All-map (IsSide s) (side_of p s) us (λ k d h. is_side (get_or us k d)
          (where_below (vertices s.new_graph)
          (λ u. is_source s.old_graph s.new_graph u || is_dirty p s u) us are k d h)));
      removed = gone;
      added = come;
      dirty = picked_places (λ (x : Source). x.vertex) (λ (x : Source). x.dirty) no_source t.sources
          ∙ ap (λ (l : List Source). map (λ (x : Source). x.vertex)
          (filter (λ (x : Source). x.dirty) l)) sources_are
          ∙ dirty_among more;
      removed_placed = placed_here t.removed gone_placed;
      added_placed = placed_here t.added come_placed;
    }
