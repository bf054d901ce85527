-- The tasks of an iteration give what its items give.
use Rattle.std.proofs.Common.{◌≡◌, ◌↔◌, ℕ, neg_ℤ, ◌-ℤ◌, ◌+◌, ◌<◌, ◌≤◌, Bool, true, false, not, ◌||◌}
use Rattle.std.proofs.Common.{◌&&◌, eqb, cond, List, [], ◌∷◌, ◌++◌, length, get_or, map, filter}
use Rattle.std.proofs.Common.{refl, sym, ap, ◌∙◌, subst, arith}
use Rattle.std.specs.List.{All, AllByRecursion, flat_map, list_any, sum_by, range_with_len}
use Rattle.std.proofs.lemmas.Bool.{eqb-true}
use Rattle.std.proofs.lemmas.List.{length-map, get_or-map}
use Rattle.std.proofs.lemmas.List.Elements.{recursion_from_All, All-filter, filter_passes}
use Rattle.std.proofs.lemmas.List.Sums.{sum_by-append, sum_by-cons}
use Rattle.bolt_base.specs.Change.{removed, added, stayed, stays}
use Rattle.bolt_base.specs.Graph.{IsGood, edges, vertices}
use Rattle.bolt_base.specs.declared.edge.Edge.{Edge}
use Rattle.bolt_base.proofs.EdgeMap.{edges_at-filter}
use Rattle.agg_words.specs.View.{View, times}
use Rattle.edge_map.specs.Targets.{AreTargets}
use Rattle.edge_map.proofs.Rising.{targets_filter}
use Rattle.vertex_expr.specs.declared.program.ProgramEntries.{ProgramEntries}
use Rattle.run_model.specs.Additions.{Item, Gift, removed_edge, added_edge, dirty_vertex, gifts_of}
use Rattle.run_model.specs.Additions.{amounts_of, items, adds_of, was, now}
use Rattle.run_model.specs.Rows.{contribute_env}
use Rattle.run_model.specs.Steps.{Step, dirty, is_dirty, is_target, targets}
use Rattle.run_model.specs.Visits.{item_visits, items_visits}
use Rattle.run_model.proofs.InRange.{no_edge}
use Rattle.run_model.proofs.Named.{named_is_target}
use Rattle.edge_map.specs.Additions.{no_source, source_at, dirty_places, was_env, now_env, given}
use Rattle.edge_map.specs.Additions.{change_gift, gifts, adds_of_gifts, ends_of_gifts, task_gifts}
use Rattle.edge_map.specs.Additions.{task_adds, task_visits, visits}
use Rattle.edge_map.specs.TaskLaws.{IsSide, AreTasksOf}
use Rattle.edge_map.specs.declared.tasks.TaskEdge.{TaskEdge}
use Rattle.edge_map.specs.declared.tasks.Tasks.{Tasks}
use Rattle.edge_map.specs.declared.tasks.Work.{Work}
use Rattle.edge_map.specs.declared.tasks.Work.TheVariants.{Removed, Added, Dirty}
use Rattle.edge_map.proofs.Parts.{places_fit}
use Rattle.edge_map.proofs.TasksAgree.{stayed_same}
use Rattle.std.proofs.lemmas.List.Concat.{flat_map-append}

flat_map-same : {X Y : Type 0} (f g : X → List Y) (xs : List X)
    → AllByRecursion (λ x. f x ≡ g x) xs → flat_map f xs ≡ flat_map g xs
flat_map-same f g [] h = refl
flat_map-same f g (x ∷ xs) h = let rest = flat_map-same f g xs h.1 in λ j. h.0 j ++ rest j

flat_map-map : {X Y Z : Type 0} (f : Y → List Z) (h : X → Y) (xs : List X) → flat_map f (map h xs)
    ≡ flat_map (λ x. f (h x)) xs
flat_map-map f h [] = refl
flat_map-map f h (x ∷ xs) = ap (λ l. f (h x) ++ l) (flat_map-map f h xs)

flat_map-flat : {X Y Z : Type 0} (f : Y → List Z) (h : X → List Y) (xs : List X)
    → flat_map f (flat_map h xs) ≡ flat_map (λ x. flat_map f (h x)) xs
flat_map-flat f h [] = refl
flat_map-flat f h (x ∷ xs) = flat_map-append f (h x) (flat_map h xs)
    ∙ ap (λ l. flat_map f (h x) ++ l) (flat_map-flat f h xs)

map-same : {X Y : Type 0} (f g : X → Y) (xs : List X) → AllByRecursion (λ x. f x ≡ g x) xs
    → map f xs ≡ map g xs
map-same f g [] h = refl
map-same f g (x ∷ xs) h = let rest = map-same f g xs h.1 in λ j. h.0 j ∷ rest j

sum-same : {X : Type 0} (f g : X → ℕ) (xs : List X) → AllByRecursion (λ x. f x ≡ g x) xs
    → sum_by f xs ≡ sum_by g xs
sum-same f g [] h = refl
sum-same f g (x ∷ xs) h = sum_by-cons f x xs ∙ (λ j. h.0 j + sum-same f g xs h.1 j)
    ∙ sym (sum_by-cons g x xs)

sum-map : {X Y : Type 0} (f : Y → ℕ) (h : X → Y) (xs : List X) → sum_by f (map h xs)
    ≡ sum_by (λ x. f (h x)) xs
sum-map f h [] = refl
sum-map f h (x ∷ xs) = sum_by-cons f (h x) (map h xs) ∙ ap (λ n. f (h x) + n) (sum-map f h xs)
    ∙ sym (sum_by-cons (λ y. f (h y)) x xs)

module _ (p : ProgramEntries) (s : Step) (t : Tasks) (are : AreTasksOf p s t) where
  abbrev stay : List Edge
  stay = stayed s.old_graph s.new_graph

  abbrev by_item : Item → List Gift
  by_item it = gifts_of stay (was p s) (now p s) it

  abbrev by_work : Work → List Gift
  by_work w = gifts p s.new_graph t w

  side_at : (k : ℕ) → k < length t.sources → IsSide s (source_at t k)
  side_at k small = are.sides k no_source small

  was_is : (k : ℕ) (e : Edge) → k < length t.sources → (source_at t k).vertex ≡ e.src
      → e.src < vertices s.old_graph → was_env p (source_at t k) e.weight
      ≡ contribute_env p s.old_graph s.old_row e
  was_is k e small v there =
      let x = side_at k small in
      let here : (source_at t k).vertex < vertices s.old_graph = subst
      (λ (u : ℕ). u < vertices s.old_graph) (sym v) there in
      (λ j. record {
        val = x.old here j;
        agg = (was_env p (source_at t k) e.weight).agg;
        old =
            (was_env p (source_at t k) e.weight).old;
        outdeg = x.old_degree j;
        weight = e.weight;
        attr = x.old_attr here j;
        id = (source_at t k).vertex;
      })
      ∙ (λ j. contribute_env p s.old_graph s.old_row
      (record { src = v j; dst = e.dst; weight = e.weight }))

  now_is : (k : ℕ) (e : Edge) → k < length t.sources → (source_at t k).vertex ≡ e.src
      → now_env p (source_at t k) e.weight ≡ contribute_env p s.new_graph s.new_row e
  now_is k e small v =
      let x = side_at k small in
      (λ j. record {
        val = x.new j;
        agg = (now_env p (source_at t k) e.weight).agg;
        old =
            (now_env p (source_at t k) e.weight).old;
        outdeg = x.new_degree j;
        weight = e.weight;
        attr = x.new_attr j;
        id = (source_at t k).vertex;
      })
      ∙ (λ j. contribute_env p s.new_graph s.new_row
      (record { src = v j; dst = e.dst; weight = e.weight }))

  module _ (good : IsGood p.limits s.old_graph) where
    removed_there : All (λ (x : TaskEdge). x.edge.src < vertices s.old_graph) t.removed
    removed_there k d h =
        let P : Edge → Type 0 = λ e. e.src < vertices s.old_graph in
        let q : Edge → Bool = λ e. not (stays s.old_graph s.new_graph (e.src, e.dst)) in
        let all : All P (edges s.old_graph) = λ i f l. (good.ends i f l).0 in
        let gone : All P (removed s.old_graph s.new_graph) = subst (All P)
        (sym (edges_at-filter s.old_graph (λ k. not (stays s.old_graph s.new_graph k))))
        (All-filter q P (edges s.old_graph) all) in
        let mine : All P (map (λ (x : TaskEdge). x.edge) t.removed) = subst (All P)
        (sym are.removed) gone in
        let long = length-map t.removed (λ (x : TaskEdge). x.edge) in
        subst P (get_or-map (λ (x : TaskEdge). x.edge) t.removed k d no_edge h)
        (mine k no_edge (omega arith))

    by_removed : flat_map by_work (map Removed t.removed)
        ≡ flat_map by_item (map removed_edge (removed s.old_graph s.new_graph))
    by_removed =
        flat_map-map by_work Removed t.removed
        ∙ flat_map-same (λ x. by_work (Removed x)) (λ x. by_item (removed_edge x.edge)) t.removed
        (recursion_from_All (λ x. by_work (Removed x) ≡ by_item (removed_edge x.edge)) t.removed
        (λ k d h.
        let x = get_or t.removed k d in
        let placed = are.removed_placed k d h in
        let e = was_is x.source x.edge placed.place placed.source (removed_there k d h) in
        λ j. record { dst = x.edge.dst; amount = λ l. neg_ℤ (given p (e j) l) } ∷ []))
        ∙ sym (flat_map-map by_item removed_edge (map (λ (x : TaskEdge). x.edge) t.removed)
        ∙ flat_map-map (λ e. by_item (removed_edge e)) (λ (x : TaskEdge). x.edge) t.removed)
        ∙ ap (λ (es : List Edge). flat_map by_item (map removed_edge es)) are.removed

  by_added : flat_map by_work (map Added t.added)
      ≡ flat_map by_item (map added_edge (added s.old_graph s.new_graph))
  by_added =
      flat_map-map by_work Added t.added
      ∙ flat_map-same (λ x. by_work (Added x)) (λ x. by_item (added_edge x.edge)) t.added
      (recursion_from_All (λ x. by_work (Added x) ≡ by_item (added_edge x.edge)) t.added
      (λ k d h.
      let x = get_or t.added k d in
      let placed = are.added_placed k d h in
      let e = now_is x.source x.edge placed.place placed.source in
      λ j. record { dst = x.edge.dst; amount = λ l. given p (e j) l } ∷ []))
      ∙ sym (flat_map-map by_item added_edge (map (λ (x : TaskEdge). x.edge) t.added)
      ∙ flat_map-map (λ e. by_item (added_edge e)) (λ (x : TaskEdge). x.edge) t.added)
      ∙ ap (λ (es : List Edge). flat_map by_item (map added_edge es)) are.added

  dirty_there : All (λ (k : ℕ). (source_at t k).vertex < vertices s.old_graph) (dirty_places t)
  dirty_there k d h =
      let P : ℕ → Type 0 = λ u. u < vertices s.old_graph in
      let all : All P (dirty p s) = All-filter (is_dirty p s) P
      (range_with_len 0 (vertices s.old_graph)) (places_fit (vertices s.old_graph)) in
      let mine : All P (map (λ (i : ℕ). (source_at t i).vertex) (dirty_places t)) = subst (All P)
      (sym are.dirty) all in
      let long = length-map (dirty_places t) (λ (i : ℕ). (source_at t i).vertex) in
      subst P (get_or-map (λ (i : ℕ). (source_at t i).vertex) (dirty_places t) k d 0 h)
      (mine k 0 (omega arith))

  abbrev change_of : Edge → Gift
  change_of e = record { dst = e.dst; amount = λ l. now p s l e -ℤ was p s l e }

  dirty_same : (k : ℕ) → k < length t.sources → (source_at t k).vertex < vertices s.old_graph
      → by_work (Dirty k) ≡ by_item (dirty_vertex (source_at t k).vertex)
  dirty_same k small there =
      let u : ℕ = (source_at t k).vertex in
      let es : List Edge = filter (λ e. eqb e.src u) stay in
      ap (map (change_gift p (source_at t k))) (stayed_same p s t are k)
      ∙ map-same (change_gift p (source_at t k)) change_of es
      (recursion_from_All (λ e. change_gift p (source_at t k) e ≡ change_of e) es
      (λ i d h.
      let e = get_or es i d in
      let is : e.src ≡ u = eqb-true e.src u (filter_passes (λ e. eqb e.src u) stay i d h) in
      let there_too : e.src < vertices s.old_graph = subst (λ (v : ℕ). v < vertices s.old_graph)
      (sym is) there in
      let a = now_is k e small (sym is) in
      let b = was_is k e small (sym is) there_too in
      λ j. record { dst = e.dst; amount = λ l. given p (a j) l -ℤ given p (b j) l }))

  by_dirty : flat_map by_work (map Dirty (dirty_places t))
      ≡ flat_map by_item (map dirty_vertex (dirty p s))
  by_dirty =
      let v : ℕ → ℕ = λ i. (source_at t i).vertex in
      flat_map-map by_work Dirty (dirty_places t)
      ∙ flat_map-same (λ k. by_work (Dirty k)) (λ k. by_item (dirty_vertex (v k))) (dirty_places t)
      (recursion_from_All (λ k. by_work (Dirty k) ≡ by_item (dirty_vertex (v k)))
      (dirty_places t)
      (λ i d h. dirty_same (get_or (dirty_places t) i d)
      (All-filter (λ (k : ℕ). (source_at t k).dirty) (λ (k : ℕ). k < length t.sources)
      (range_with_len 0 (length t.sources)) (places_fit (length t.sources)) i d h)
      (dirty_there i d h)))
      ∙ sym (flat_map-map by_item dirty_vertex (map v (dirty_places t))
      ∙ flat_map-map (λ u. by_item (dirty_vertex u)) v (dirty_places t))
      ∙ ap (λ (us : List ℕ). flat_map by_item (map dirty_vertex us)) are.dirty

  pub gifts_same : IsGood p.limits s.old_graph → task_gifts p s.new_graph t
      ≡ flat_map by_item (items p s)
  gifts_same good =
      let r = removed s.old_graph s.new_graph in
      let a = added s.old_graph s.new_graph in
      flat_map-append by_work (map Removed t.removed ++ map Added t.added)
      (map Dirty (dirty_places t))
      ∙ (λ j. flat_map-append by_work (map Removed t.removed) (map Added t.added) j ++ by_dirty j)
      ∙ (λ j. (by_removed good j ++ by_added j) ++ flat_map by_item (map dirty_vertex (dirty p s)))
      ∙ sym (flat_map-append by_item (map removed_edge r ++ map added_edge a)
      (map dirty_vertex (dirty p s))
      ∙ ap (λ (l : List Gift). l ++ flat_map by_item (map dirty_vertex (dirty p s)))
      (flat_map-append by_item (map removed_edge r) (map added_edge a)))

  pub adds_same : IsGood p.limits s.old_graph → task_adds p s.new_graph t ≡ adds_of p s (items p s)
  adds_same good = ap (adds_of_gifts p) (gifts_same good)
      ∙ flat_map-flat (amounts_of p) by_item (items p s)

-- ---- targets
any_times : (v : ℕ) (xs : List Gift)
    → (0 < times v (ends_of_gifts xs)) ↔ (list_any (λ gift. eqb gift.dst v) xs ≡ true)
any_times v [] = (λ h. absurd (omega arith), λ e. absurd (cc))
any_times v (x ∷ xs) =
    let more = sum_by-cons (λ (b : ℕ). cond {A = ℕ} (eqb b v) 1 0) x.dst (ends_of_gifts xs) in
    let rest = any_times v xs in
    elim (eqb x.dst v) as (λ b. times v (x.dst ∷ ends_of_gifts xs)
    ≡ cond {A = ℕ} b 1 0 + times v (ends_of_gifts xs)
    → (0 < times v (x.dst ∷ ends_of_gifts xs)) ↔
    ((b || list_any (λ gift. eqb gift.dst v) xs) ≡ true)) [
      | true ↦ λ e. (λ h. refl, λ _. omega arith)
      | false ↦ λ e. (λ h. rest.0 (omega arith), λ t. let k = rest.1 t in omega arith)
    ] more

pub ends_same : (p : ProgramEntries) (s : Step) (t : Tasks) → IsGood p.limits s.old_graph
    → AreTasksOf p s t → (v : ℕ) → (0 < times v (ends_of_gifts (task_gifts p s.new_graph t))) ↔
    (is_target p s v ≡ true)
ends_same p s t good are v =
    let both = any_times v (task_gifts p s.new_graph t) in
    let same : list_any (λ gift. eqb gift.dst v) (task_gifts p s.new_graph t)
    ≡ is_target p s v = ap (list_any (λ gift. eqb gift.dst v)) (gifts_same p s t are good)
    ∙ named_is_target p s v in
    (λ h. sym same ∙ both.0 h, λ e. both.1 (same ∙ e))

-- ---- visits
module _ (p : ProgramEntries) (s : Step) (t : Tasks) (are : AreTasksOf p s t) where
  pub visits_same : task_visits t ≡ items_visits s.new_graph (items p s)
  visits_same =
      let f : Work → ℕ = visits t in
      let g : Item → ℕ = item_visits s.new_graph in
      let v : ℕ → ℕ = λ i. (source_at t i).vertex in
      let r = removed s.old_graph s.new_graph in
      let a = added s.old_graph s.new_graph in
      let gone : sum_by f (map Removed t.removed) ≡ sum_by g (map removed_edge r) =
      sum-map f Removed t.removed ∙ sym
      (sum-map g removed_edge (map (λ (x : TaskEdge). x.edge) t.removed)
      ∙ sum-map (λ e. g (removed_edge e)) (λ (x : TaskEdge). x.edge) t.removed)
      ∙ ap (λ (es : List Edge). sum_by g (map removed_edge es)) are.removed in
      let came : sum_by f (map Added t.added) ≡ sum_by g (map added_edge a) =
      sum-map f Added t.added ∙ sym (sum-map g added_edge (map (λ (x : TaskEdge). x.edge) t.added)
      ∙ sum-map (λ e. g (added_edge e)) (λ (x : TaskEdge). x.edge) t.added)
      ∙ ap (λ (es : List Edge). sum_by g (map added_edge es)) are.added in
      let each : AllByRecursion (λ k. f (Dirty k) ≡ g (dirty_vertex (v k))) (dirty_places t) =
      recursion_from_All (λ k. f (Dirty k) ≡ g (dirty_vertex (v k))) (dirty_places t)
      (λ i d h. (are.sides (get_or (dirty_places t) i d) no_source
      (All-filter (λ (k : ℕ). (source_at t k).dirty) (λ (k : ℕ). k < length t.sources)
      (range_with_len 0 (length t.sources)) (places_fit (length t.sources)) i d
      h)).new_degree) in
      let dirt : sum_by f (map Dirty (dirty_places t)) ≡ sum_by g (map dirty_vertex (dirty p s)) =
      sum-map f Dirty (dirty_places t)
      ∙ sum-same (λ k. f (Dirty k)) (λ k. g (dirty_vertex (v k))) (dirty_places t) each
      ∙ sym (sum-map g dirty_vertex (map v (dirty_places t))
      ∙ sum-map (λ u. g (dirty_vertex u)) v (dirty_places t))
      ∙ ap (λ (us : List ℕ). sum_by g (map dirty_vertex us)) are.dirty in
      sum_by-append f (map Removed t.removed ++ map Added t.added) (map Dirty (dirty_places t))
      ∙ (λ j. sum_by-append f (map Removed t.removed) (map Added t.added) j + dirt j)
      ∙ (λ j. gone j + came j + sum_by g (map dirty_vertex (dirty p s)))
      ∙ sym (sum_by-append g (map removed_edge r ++ map added_edge a)
      (map dirty_vertex (dirty p s))
      ∙ ap (λ (n : ℕ). n + sum_by g (map dirty_vertex (dirty p s)))
      (sum_by-append g (map removed_edge r) (map added_edge a)))

-- ---- targets are vertices
any_gives : (q : Edge → Bool) (n v : ℕ) (xs : List Edge) → AllByRecursion (λ e. e.dst < n) xs
    → ((e : Edge) → q e ≡ true → e.dst ≡ v) → list_any q xs ≡ true → v < n
any_gives q n v [] all h t = absurd (cc)
any_gives q n v (e ∷ es) all h t =
    elim (q e) as (λ b. q e ≡ b → (b || list_any q es) ≡ true → v < n) [
      | true ↦ λ k _. subst (λ (m : ℕ). m < n) (h e k) all.0
      | false ↦ λ _ r. any_gives q n v es all.1 h r
    ] refl t

one_of_three : (a b c : Bool) (P : Type 0) → (a ≡ true → P) → (b ≡ true → P) → (c ≡ true → P)
    → (a || b || c) ≡ true → P
one_of_three true b c P f g h t = f refl
one_of_three false true c P f g h t = g refl
one_of_three false false c P f g h t = h t

first_of_two : (a b : Bool) → (a && b) ≡ true → a ≡ true
first_of_two true b t = refl
first_of_two false b t = t

pub target_there : (p : ProgramEntries) (s : Step) → IsGood p.limits s.old_graph
    → IsGood p.limits s.new_graph → vertices s.old_graph ≤ vertices s.new_graph → (v : ℕ)
    → is_target p s v ≡ true → v < vertices s.new_graph
target_there p s good_old good_new grown v t =
    let n : ℕ = vertices s.new_graph in
    let P : Edge → Type 0 = λ e. e.dst < n in
    let old : All P (edges s.old_graph) = λ i d h. let e = (good_old.ends i d h).1 in omega arith in
    let new : All P (edges s.new_graph) = λ i d h. (good_new.ends i d h).1 in
    let q : Edge → Bool = λ e. not (stays s.old_graph s.new_graph (e.src, e.dst)) in
    let gone : All P (removed s.old_graph s.new_graph) = subst (All P)
    (sym (edges_at-filter s.old_graph (λ k. not (stays s.old_graph s.new_graph k))))
    (All-filter q P (edges s.old_graph) old) in
    let came : All P (added s.old_graph s.new_graph) = subst (All P)
    (sym (edges_at-filter s.new_graph (λ k. not (stays s.old_graph s.new_graph k))))
    (All-filter q P (edges s.new_graph) new) in
    one_of_three (list_any (λ e. eqb e.dst v) (removed s.old_graph s.new_graph))
    (list_any (λ e. eqb e.dst v) (added s.old_graph s.new_graph))
    (list_any (λ e. eqb e.dst v && is_dirty p s e.src) (edges s.new_graph)) (v < n)
    (any_gives (λ e. eqb e.dst v) n v (removed s.old_graph s.new_graph)
    (recursion_from_All P (removed s.old_graph s.new_graph) gone) (λ e k. eqb-true e.dst v k))
    (any_gives (λ e. eqb e.dst v) n v (added s.old_graph s.new_graph)
    (recursion_from_All P (added s.old_graph s.new_graph) came) (λ e k. eqb-true e.dst v k))
    (any_gives (λ e. eqb e.dst v && is_dirty p s e.src) n v (edges s.new_graph)
    (recursion_from_All P (edges s.new_graph) new)
    (λ e k. eqb-true e.dst v (first_of_two (eqb e.dst v) (is_dirty p s e.src) k))) t

pub targets_listed : (p : ProgramEntries) (s : Step) (t : Tasks) → IsGood p.limits s.old_graph
    → IsGood p.limits s.new_graph → vertices s.old_graph ≤ vertices s.new_graph → AreTasksOf p s t
    → (us : List ℕ) (v : View) → AreTargets (ends_of_gifts (task_gifts p s.new_graph t)) us v → us
    ≡ targets p s
targets_listed p s t good_old good_new grown are us v named_here =
    targets_filter (is_target p s) (vertices s.new_graph)
    (ends_of_gifts (task_gifts p s.new_graph t)) us v named_here (ends_same p s t good_old are)
    (target_there p s good_old good_new grown)
