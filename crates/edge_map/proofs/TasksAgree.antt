-- The tasks of an iteration agree with its new graph.
use Rattle.std.proofs.Common.{◌≡◌, ℕ, ℤ, pos, ◌-◌, ◌<◌, ◌≤◌, Bool, true, false, not, ◌&&◌}
use Rattle.std.proofs.Common.{eqb, cond, List, [], ◌∷◌, length, get_or, map, filter, T}
use Rattle.std.proofs.Common.{refl, sym, ap, ◌∙◌, subst, arith, inl, inr, Some}
use Rattle.std.specs.Cmp.{signed_Decides}
use Rattle.std.specs.FinMap as finite
use Rattle.std.specs.FinMap.{is_sorted, find}
use Rattle.std.specs.FinMap.Entries.{below_all}
use Rattle.std.specs.List.{All, AllByRecursion, list_any}
use Rattle.std.specs.Ordering.{is_lt, eq_by_cmp}
use Rattle.std.proofs.lemmas.Bool.{cases_lt, eq-eqb, eqb-true}
use Rattle.std.proofs.lemmas.List.{length-map, get_or-map}
use Rattle.std.proofs.lemmas.List.Elements.{recursion_from_All, All-from_recursion, All-filter}
use Rattle.std.proofs.lemmas.List.Elements.{All-map, filter_passes}
use Rattle.std.proofs.lemmas.List.Folds.{list_any_at}
use Rattle.std.proofs.lemmas.Map.Views.{any-filter_same}
use Rattle.bolt_base.specs.Change.{same_weights, stays, removed, added, stayed, attr_at}
use Rattle.bolt_base.specs.Graph.{Graph, IsBetween, IsGood, Pair, pair_cmp, edge, edges, out_edges}
use Rattle.bolt_base.specs.Graph.{vertices}
use Rattle.bolt_base.specs.LawsOfChange.{edge_stays}
use Rattle.bolt_base.specs.Plain.{entry}
use Rattle.bolt_base.specs.declared.edge.Edge.{Edge}
use Rattle.bolt_base.specs.declared.limits.Limits.{Limits}
use Rattle.bolt_base.proofs.EdgeParts.{removed-filter, added-filter, old_edges_counted}
use Rattle.bolt_base.proofs.EdgeParts.{stayed_out as stayed_out_filter}
use Rattle.bolt_base.proofs.PairOrder.{same_src, other_src}
use Rattle.bolt_base.proofs.SortedKeys.{both_hold, equal_tied, unequal_untied}
use Rattle.vertex_expr.specs.ProgramBounds.{lane_spans}
use Rattle.vertex_expr.specs.Span.{AreIn}
use Rattle.vertex_expr.specs.declared.program.ProgramEntries.{ProgramEntries}
use Rattle.run_model.specs.Steps.{Step}
use Rattle.run_model.proofs.InRange.{no_edge, values_in}
use Rattle.edge_map.specs.Additions.{no_source, source_at, is_added, stayed_out}
use Rattle.edge_map.specs.Agrees.{EdgesRise, HasEdge, LacksEdge, IsSource, IsTask, AgreesWith}
use Rattle.edge_map.specs.TaskLaws.{IsGoodStep, AreTasksOf}
use Rattle.edge_map.specs.TaskLaws.{StepsAreGood, TailStepsAreGood}
use Rattle.edge_map.specs.declared.tasks.TaskEdge.{TaskEdge}
use Rattle.edge_map.specs.declared.tasks.Tasks.{Tasks}
use Rattle.edge_map.proofs.RisingTasks.{pair_before, edge_ends, some_end}
use Rattle.edge_map.proofs.Sources.{any-map}
use Rattle.edge_map.proofs.Unadded.{filter_alike}

-- ---- entries are found
pair_itself : (q : Pair) → eq_by_cmp pair_cmp q q ≡ true
pair_itself q = same_src q.0 q.1 q.0 q.1 refl ∙ equal_tied q.1 q.1 refl

pair_behind : (p q : Pair) → T (is_lt (pair_cmp p q)) → eq_by_cmp pair_cmp q p ≡ false
pair_behind p q h = elim (pair_before p q h) [
  | inl low ↦ other_src q.0 q.1 p.0 p.1 (λ e. omega arith)
  | inr even ↦
      let s = even.0 in
      let d = even.1 in
      same_src q.0 q.1 p.0 p.1 (sym s) ∙ unequal_untied q.1 p.1 (λ e. omega arith)
]

all_found : (es : List (Pair × ℤ)) → T (is_sorted pair_cmp es)
    → AllByRecursion (λ (f : Pair × ℤ). find pair_cmp f.0 es ≡ Some f.1) es
all_found [] s = tt
all_found (e ∷ es) s =
    let b = both_hold (below_all pair_cmp e.0 es) (is_sorted pair_cmp es) s in (
      ap (λ t. cond t (Some e.1) (find pair_cmp e.0 es)) (pair_itself e.0),
      behind es b.0 (all_found es b.1),
    )
  where
    behind : (fs : List (Pair × ℤ)) → T (below_all pair_cmp e.0 fs)
        → AllByRecursion (λ (f : Pair × ℤ). find pair_cmp f.0 es ≡ Some f.1) fs
        → AllByRecursion (λ (f : Pair × ℤ). find pair_cmp f.0 (e ∷ es) ≡ Some f.1) fs
    behind [] t h = tt
    behind (f ∷ fs) t h =
        let b = both_hold (is_lt (pair_cmp e.0 f.0)) (below_all pair_cmp e.0 fs) t in (
          ap (λ o. cond o (Some e.1) (find pair_cmp f.0 es)) (pair_behind e.0 f.0 b.0) ∙ h.0,
          behind fs b.1 h.1,
        )

edges_found : (g : Graph) → All (HasEdge g) (edges g)
edges_found g =
    All-map (HasEdge g) edge (finite.entries g.weights)
    (λ k d h. finite.get-entries g.weights (get_or (finite.entries g.weights) k d).0
    ∙ All-from_recursion (λ (f : Pair × ℤ). find pair_cmp f.0 (finite.entries g.weights)
    ≡ Some f.1) (finite.entries g.weights)
    (all_found (finite.entries g.weights) (finite.entries_sorted g.weights)) k d h)

-- ---- edges in their order
same_entries : (es : List (Pair × ℤ)) → map entry (map edge es) ≡ es
same_entries [] = refl
same_entries (e ∷ es) = ap (λ l. e ∷ l) (same_entries es)

map-twice : (xs : List TaskEdge) → map entry (map (λ (x : TaskEdge). x.edge) xs)
    ≡ map (λ (x : TaskEdge). entry x.edge) xs
map-twice [] = refl
map-twice (x ∷ xs) = ap (λ l. entry x.edge ∷ l) (map-twice xs)

rise_as : (xs : List TaskEdge) (es : List (Pair × ℤ)) → T (is_sorted pair_cmp es)
    → map (λ (x : TaskEdge). x.edge) xs ≡ map edge es → EdgesRise xs
rise_as xs es s e =
    subst (λ (l : List (Pair × ℤ)). T (is_sorted pair_cmp l))
    (sym (sym (map-twice xs) ∙ ap (map entry) e ∙ same_entries es)) s

-- ---- what holds of edges holds of the tasks with them
task_edges : (P : Edge → Type 0) (xs : List TaskEdge) (es : List Edge)
    → map (λ (x : TaskEdge). x.edge) xs ≡ es → All P es → All (λ (x : TaskEdge). P x.edge) xs
task_edges P xs es e all k d h =
    let mine : All P (map (λ (x : TaskEdge). x.edge) xs) = subst (All P) (sym e) all in
    let long = length-map xs (λ (x : TaskEdge). x.edge) in
    subst P (get_or-map (λ (x : TaskEdge). x.edge) xs k d no_edge h) (mine k no_edge (omega arith))

-- ---- stayed
abbrev same_ends : Edge → Edge → Bool
same_ends e f = eqb f.src e.src && eqb f.dst e.dst

both_true : (a b : Bool) → (a && b) ≡ true → (a ≡ true) × (b ≡ true)
both_true true b h = (refl, h)
both_true false b h = absurd (cc)

and_true : (b : Bool) → (b && true) ≡ b
and_true true = refl
and_true false = refl

not_twice : (b : Bool) → not (not b) ≡ b
not_twice true = refl
not_twice false = refl

module _ (p : ProgramEntries) (s : Step) (t : Tasks) (are : AreTasksOf p s t) where
  abbrev stays_here : Edge → Bool
  stays_here e = edge_stays s.old_graph s.new_graph e

  added_is : (e : Edge) → list_any (same_ends e) (edges s.new_graph) ≡ true
      → not (is_added t e) ≡ stays_here e
  added_is e there =
      let alike : (f : Edge) → same_ends e f ≡ true → not (stays_here f)
      ≡ not (stays_here e) = λ f k.
      let b = both_true (eqb f.src e.src) (eqb f.dst e.dst) k in
      let u = eqb-true f.src e.src b.0 in
      let v = eqb-true f.dst e.dst b.1 in
      λ j. not (stays s.old_graph s.new_graph (u j, v j)) in
      let is : is_added t e ≡ not (stays_here e) =
      sym (any-map (same_ends e) (λ (x : TaskEdge). x.edge) t.added)
      ∙ ap (list_any (same_ends e)) (are.added ∙ added-filter s.old_graph s.new_graph)
      ∙ any-filter_same (same_ends e) (λ f. not (stays_here f)) (not (stays_here e)) alike
      (edges s.new_graph)
      ∙ ap (λ b. not (stays_here e) && b) there ∙ and_true (not (stays_here e)) in
      ap not is ∙ not_twice (stays_here e)

  -- what wasn't added stayed
  pub stayed_same : (k : ℕ)
      → stayed_out s.new_graph t k
      ≡ filter (λ e. eqb e.src (source_at t k).vertex) (stayed s.old_graph s.new_graph)
  stayed_same k =
      let u : ℕ = (source_at t k).vertex in
      let P : Edge → Type 0 = λ e. not (is_added t e) ≡ stays_here e in
      let all : All P (edges s.new_graph) = λ i d h.
      let e = get_or (edges s.new_graph) i d in
      added_is e (list_any_at (same_ends e) (edges s.new_graph) i d h
      (λ j. eq-eqb e.src e.src refl j && eq-eqb e.dst e.dst refl j)) in
      filter_alike (λ e. not (is_added t e)) stays_here (out_edges s.new_graph u)
      (recursion_from_All P (out_edges s.new_graph u)
      (All-filter (λ e. eqb e.src u) P (edges s.new_graph) all))
      ∙ sym (stayed_out_filter s.old_graph s.new_graph u)

  -- ---- the five points
  module _ (good : IsGoodStep p s) where
    abbrev g : Graph
    g = s.old_graph

    abbrev h : Graph
    h = s.new_graph

    from_old : (P : Edge → Type 0) → All P (edges g) → All (λ (x : TaskEdge). P x.edge) t.removed
    from_old P all =
        task_edges P t.removed (removed g h) are.removed
        (subst (All P) (sym (removed-filter g h))
        (All-filter (λ e. not (edge_stays g h e)) P (edges g) all))

    from_new : (P : Edge → Type 0) → All P (edges h) → All (λ (x : TaskEdge). P x.edge) t.added
    from_new P all =
        task_edges P t.added (added g h) are.added
        (subst (All P) (sym (added-filter g h))
        (All-filter (λ e. not (edge_stays g h e)) P (edges h) all))

    attr_between : (l : Limits) (f : Graph) → IsGood l f → (u : ℕ) → u < vertices f
        → IsBetween l.attr_lo l.attr_hi (attr_at f u)
    attr_between l f is u there = is.attrs u (pos 0) there

    sources_are : All (IsSource p h) t.sources
    sources_are k d small =
        let x = get_or t.sources k d in
        let side = are.sides k d small in
        let new : AreIn (lane_spans p.ranges) x.new = subst (AreIn (lane_spans p.ranges))
        (sym side.new) (good.new_values x.vertex side.there) in
        let new_attr : IsBetween p.limits.attr_lo p.limits.attr_hi x.new_attr = subst
        (IsBetween p.limits.attr_lo p.limits.attr_hi) (sym side.new_attr)
        (attr_between p.limits h good.new_good x.vertex side.there) in
        let few = good.old_good.out_degrees x.vertex in
        let degree = side.old_degree in
        record {
          there = side.there;
          degree = side.new_degree;
          attr = side.new_attr;
          few = omega arith;
          old = elim (cases_lt x.vertex (vertices g)) [
            | inl before ↦ subst (AreIn (lane_spans p.ranges)) (sym (side.old before))
                (good.old_values x.vertex before)
            | inr fresh ↦ subst (AreIn (lane_spans p.ranges)) (sym (side.no_old fresh)) new
          ];
          new = new;
          old_attr = elim (cases_lt x.vertex (vertices g)) [
            | inl before ↦ subst (IsBetween p.limits.attr_lo p.limits.attr_hi)
                (sym (side.old_attr before)) (attr_between p.limits g good.old_good x.vertex before)
            | inr fresh ↦ subst (IsBetween p.limits.attr_lo p.limits.attr_hi)
                (sym (side.no_attr fresh)) new_attr
          ];
          new_attr = new_attr;
        }

    removed_are : All (IsTask p h t) t.removed
    removed_are k d small =
        let grown = good.grown in
        let there = from_old (λ e. e.dst < vertices g) (λ i f l. (good.old_good.ends i f l).1) k d
        small in
        record {
          placed = are.removed_placed k d small;
          there = omega arith;
          weight = from_old (λ e. IsBetween p.limits.weight_lo p.limits.weight_hi e.weight)
              good.old_good.weights k d small;
        }

    added_are : All (IsTask p h t) t.added
    added_are k d small = record {
      placed = are.added_placed k d small;
      there = from_new (λ e. e.dst < vertices h) (λ i f l. (good.new_good.ends i f l).1) k d small;
      weight = from_new (λ e. IsBetween p.limits.weight_lo p.limits.weight_hi e.weight)
          good.new_good.weights k d small;
    }

    lacks : (e : Edge) → HasEdge g e → not (edge_stays g h e) ≡ true → LacksEdge h e
    lacks e has gone there =
        let same : edge_stays g h e ≡ true = (λ j. same_weights (has j) (there j))
        ∙ (signed_Decides e.weight e.weight).1 refl in
        absurd (cc (same, gone))

    gone_are : All (λ (x : TaskEdge). LacksEdge h x.edge) t.removed
    gone_are =
        task_edges (LacksEdge h) t.removed (removed g h) are.removed
        (subst (All (LacksEdge h)) (sym (removed-filter g h))
        (λ i d l.
        let e = get_or (filter (λ e. not (edge_stays g h e)) (edges g)) i d in
        lacks e (All-filter (λ e. not (edge_stays g h e)) (HasEdge g) (edges g) (edges_found g) i d
        l)
        (filter_passes (λ e. not (edge_stays g h e)) (edges g) i d l)))

    had_are : All (λ (x : TaskEdge). 1 ≤ (source_at t x.source).old_degree) t.removed
    had_are k d small =
        let x = get_or t.removed k d in
        let placed = are.removed_placed k d small in
        let u : ℕ = (source_at t x.source).vertex in
        let side = are.sides x.source no_source placed.place in
        let has = from_old (HasEdge g) (edges_found g) k d small in
        let some = some_end (out_edges g u) x.edge.dst (edge_ends g x.edge u has placed.source) in
        let degree = side.old_degree in
        omega arith

    stayed_had : (k : ℕ) → k < length t.sources → (source_at t k).dirty ≡ true
        → 0 < length (stayed_out h t k) → 1 ≤ (source_at t k).old_degree
    stayed_had k small flag some =
        let u : ℕ = (source_at t k).vertex in
        let side = are.sides k no_source small in
        let degree = side.old_degree in
        let same = ap length (stayed_same k) in
        let parts = old_edges_counted g h (λ e. eqb e.src u) in
        omega arith

    pub tasks_agree : AgreesWith p h t
    tasks_agree = record {
      sources_rise = are.sources_rise;
      removed_rise =
          let q : Pair → Bool = λ k. not (stays g h k) in
          rise_as t.removed (finite.entries (finite.retain_keys g.weights q))
          (finite.entries_sorted (finite.retain_keys g.weights q)) are.removed;
      added_rise =
          let q : Pair → Bool = λ k. not (stays g h k) in
          rise_as t.added (finite.entries (finite.retain_keys h.weights q))
          (finite.entries_sorted (finite.retain_keys h.weights q)) are.added;
      sources = sources_are;
      removed = removed_are;
      added = added_are;
      gone = gone_are;
      come = from_new (HasEdge h) (edges_found h);
      had = had_are;
      stayed = stayed_had;
    }

-- ---- iterations
pub steps_good : StepsAreGood
steps_good p g h safe old new grown i = record {
  old_good = old;
  new_good = new;
  grown = grown;
  old_values = values_in p g safe old (i - 1);
  new_values = values_in p h safe new (i - 1);
}

pub tail_steps_good : TailStepsAreGood
tail_steps_good p h safe good i = record {
  old_good = good;
  new_good = good;
  grown = omega arith;
  old_values = values_in p h safe good (i - 2);
  new_values = values_in p h safe good (i - 1);
}
