-- The walk of a dirty source, where tasks agree with a graph.
use Rattle.std.proofs.Common.{◌≡◌, ◌⊎◌, ℕ, ℤ, zero, suc, ◌+◌, ◌<◌, ◌≤◌, Bool, true, not}
use Rattle.std.proofs.Common.{◌&&◌, ◌||◌, eqb, List, [], ◌∷◌, length, get_or, map, filter, T}
use Rattle.std.proofs.Common.{refl, sym, ap, ◌∙◌, subst, arith, inl, inr, is_some}
use Rattle.std.specs.FinMap as finite
use Rattle.std.specs.FinMap.{is_sorted}
use Rattle.std.specs.FinMap.Entries.{below_all}
use Rattle.std.specs.List.{All, AllByRecursion, list_any}
use Rattle.std.specs.Ordering.{nat_cmp, is_lt, eq_by_cmp, ordering_then}
use Rattle.std.specs.declared.cmp.Ordering.TheVariants.{Less, Equal, Greater}
use Rattle.std.proofs.lemmas.Bool.{cases_eq, cases_lt, eq-eqb, ne_eqb, le-ltb, lt-ltb}
use Rattle.std.proofs.lemmas.Cmp.{ranked}
use Rattle.std.proofs.lemmas.List.Elements.{recursion_from_All}
use Rattle.bolt_base.specs.Graph.{Graph, Pair, pair_cmp, edge, edges, out_edges}
use Rattle.bolt_base.specs.Plain.{entry}
use Rattle.bolt_base.specs.declared.edge.Edge.{Edge}
use Rattle.bolt_base.proofs.SortedKeys.{both_hold, is_lt-less, equal_tied, unequal_untied}
use Rattle.bolt_base.proofs.PairOrder.{same_src, other_src}
use Rattle.vertex_expr.specs.declared.program.ProgramEntries.{ProgramEntries}
use Rattle.edge_map.specs.Additions.{no_source, source_at, is_added, stayed_out}
use Rattle.edge_map.specs.Agrees.{SourcesRise, EdgesRise, HasEdge, IsPlaced, AgreesWith}
use Rattle.edge_map.specs.Walks.{from_source, walked_out}
use Rattle.edge_map.specs.declared.tasks.Source.{Source}
use Rattle.edge_map.specs.declared.tasks.TaskEdge.{TaskEdge}
use Rattle.edge_map.specs.declared.tasks.Tasks.{Tasks}
use Rattle.edge_map.proofs.Unadded.{EndsFrom, MineFrom, AreAmong, is_mine, has_mine, has_end}
use Rattle.edge_map.proofs.Unadded.{filter_alike, walk_is_filter}

-- ---- pairs in order
-- a pair that comes before another one has a lower source, or the same one and a lower destination
pub pair_before : (p q : Pair) → T (is_lt (pair_cmp p q))
    → (p.0 < q.0) ⊎ ((p.0 ≡ q.0) × (p.1 < q.1))
pair_before p q h =
    elim (nat_cmp p.0 q.0) as (λ r. nat_cmp p.0 q.0 ≡ r
    → T (is_lt (ordering_then r (nat_cmp p.1 q.1)))
    → (p.0 < q.0) ⊎ ((p.0 ≡ q.0) × (p.1 < q.1))) [
      | Less ↦ λ e _. inl (ranked p.0 q.0 Less (sym e))
      | Equal ↦ λ e t. inr (ranked p.0 q.0 Equal (sym e), is_lt-less p.1 q.1 t)
      | Greater ↦ λ e t. absurd t
    ] refl h

-- ---- sources in order
rises_at : (xs : List Source) (i j : ℕ) (d : Source) → SourcesRise xs → i < j → j < length xs
    → (get_or xs i d).vertex < (get_or xs j d).vertex
rises_at [] i j d s l h = absurd (omega arith)
rises_at (x ∷ xs) i zero d s l h = absurd (omega arith)
rises_at (x ∷ xs) zero (suc j) d s l h =
    let b = both_hold (below_all nat_cmp x.vertex (map (λ y. (y.vertex, y)) xs))
    (is_sorted nat_cmp (map (λ y. (y.vertex, y)) xs)) s in
    lower xs j b.0 (omega arith)
  where
    lower : (ys : List Source) (k : ℕ)
        → T (below_all nat_cmp x.vertex (map (λ y. (y.vertex, y)) ys))
        → k < length ys → x.vertex < (get_or ys k d).vertex
    lower [] k t h = absurd (omega arith)
    lower (y ∷ ys) zero t h =
        is_lt-less x.vertex y.vertex (both_hold (is_lt (nat_cmp x.vertex y.vertex))
        (below_all nat_cmp x.vertex (map (λ z. (z.vertex, z)) ys)) t).0
    lower (y ∷ ys) (suc k) t h =
        lower ys k (both_hold (is_lt (nat_cmp x.vertex y.vertex))
        (below_all nat_cmp x.vertex (map (λ z. (z.vertex, z)) ys)) t).1 (omega arith)
rises_at (x ∷ xs) (suc i) (suc j) d s l h =
    let b = both_hold (below_all nat_cmp x.vertex (map (λ y. (y.vertex, y)) xs))
    (is_sorted nat_cmp (map (λ y. (y.vertex, y)) xs)) s in
    rises_at xs i j d b.1 (omega arith) (omega arith)

-- so there are no more sources than vertices
pub sources_few : (xs : List Source) (n : ℕ) → SourcesRise xs → All (λ x. x.vertex < n) xs
    → length xs ≤ n
sources_few [] n s h = omega arith
sources_few (x ∷ xs) n s h =
    let last = at_least (length xs) (omega arith) in
    let below = h (length xs) x (omega arith) in
    omega arith
  where
    at_least : (i : ℕ) → i < length (x ∷ xs) → i ≤ (get_or (x ∷ xs) i x).vertex
    at_least zero l = omega arith
    at_least (suc i) l =
        let before = at_least i (omega arith) in
        let up = rises_at (x ∷ xs) i (suc i) x s (omega arith) l in
        omega arith

module _ (t : Tasks) (rise : SourcesRise t.sources) where
  -- places are ordered as their vertices
  place_order : (i j : ℕ) → i < length t.sources → j < length t.sources
      → (source_at t i).vertex ≤ (source_at t j).vertex → i ≤ j
  place_order i j h l up = elim (cases_lt j i) [
    | inl before ↦ let low = rises_at t.sources j i no_source rise before h in absurd (omega arith)
    | inr past ↦ past
  ]

  same_place : (i j : ℕ) → i < length t.sources → j < length t.sources
      → (source_at t i).vertex ≡ (source_at t j).vertex → i ≡ j
  same_place i j h l e =
      let a = place_order i j h l (omega arith) in
      let b = place_order j i l h (omega arith) in
      omega arith

  -- ---- added edges from a source on
  abbrev EdgesFrom : ℕ → ℕ → List TaskEdge → Type 0
  EdgesFrom k a xs =
      AllByRecursion (λ (x : TaskEdge). (k ≤ x.source) × (x.source ≡ k → a ≤ x.edge.dst)) xs

  behind : (x : TaskEdge) (ys : List TaskEdge) → IsPlaced t x → AllByRecursion (IsPlaced t) ys
      → T (below_all pair_cmp (x.edge.src, x.edge.dst) (map (λ y. entry y.edge) ys))
      → EdgesFrom x.source (x.edge.dst + 1) ys
  behind x [] p ps h = tt
  behind x (y ∷ ys) p ps h =
      let b = both_hold (is_lt (pair_cmp (x.edge.src, x.edge.dst) (y.edge.src, y.edge.dst)))
      (below_all pair_cmp (x.edge.src, x.edge.dst) (map (λ z. entry z.edge) ys)) h in
      let order = pair_before (x.edge.src, x.edge.dst) (y.edge.src, y.edge.dst) b.0 in
      let a = p.source in
      let c = ps.0.source in (
        elim order [
          | inl low ↦ (
            place_order x.source y.source p.place ps.0.place (omega arith),
            λ e. absurd (let same = ap (λ i. (source_at t i).vertex) e in omega arith),
          )
          | inr even ↦
              let s = even.0 in
              let d = even.1 in
              (place_order x.source y.source p.place ps.0.place (omega arith), λ e. omega arith)
        ],
        behind x ys p ps.1 b.1,
      )

  mine : (k a : ℕ) (xs : List TaskEdge) → EdgesRise xs → AllByRecursion (IsPlaced t) xs
      → EdgesFrom k a xs → MineFrom k a xs
  mine k a [] s p f = tt
  mine k a (x ∷ xs) s p f =
      let b = both_hold (below_all pair_cmp (x.edge.src, x.edge.dst) (map (λ y. entry y.edge) xs))
      (is_sorted pair_cmp (map (λ y. entry y.edge) xs)) s in
      let rest = behind x xs p.0 p.1 b.0 in
      elim (cases_eq x.source k) [
        | inl e ↦ inl (
          e,
          f.0.1 e,
          mine k (x.edge.dst + 1) xs b.1 p.1
              (subst (λ i. EdgesFrom i (x.edge.dst + 1) xs) e rest),
        )
        | inr apart ↦ let l = f.0.0 in inr (omega arith, later xs rest (omega arith))
      ]
    where
      later : (ys : List TaskEdge) → EdgesFrom x.source (x.edge.dst + 1) ys → k < x.source
          → AllByRecursion (λ (y : TaskEdge). k < y.source) ys
      later [] h l = tt
      later (y ∷ ys) h l = (let c = h.0.0 in omega arith, later ys h.1 l)

  -- from a source on there are none of earlier ones
  pub from_is_mine : (k : ℕ) (xs : List TaskEdge) → EdgesRise xs → AllByRecursion (IsPlaced t) xs
      → MineFrom k 0 (from_source k xs)
  from_is_mine k [] s p = tt
  from_is_mine k (x ∷ xs) s p =
      let b = both_hold (below_all pair_cmp (x.edge.src, x.edge.dst) (map (λ y. entry y.edge) xs))
      (is_sorted pair_cmp (map (λ y. entry y.edge) xs)) s in
      elim (cases_lt x.source k) [
        | inl low ↦ rw (lt-ltb x.source k low) (from_is_mine k xs b.1 p.1)
        | inr past ↦ rw (le-ltb x.source k past)
            (mine k 0 (x ∷ xs) s p (
              (past, λ _. omega arith),
              loosen xs (behind x xs p.0 p.1 b.0)
                  past,
            ))
      ]
    where
      loosen : (ys : List TaskEdge) → EdgesFrom x.source (x.edge.dst + 1) ys → k ≤ x.source
          → EdgesFrom k 0 ys
      loosen [] h l = tt
      loosen (y ∷ ys) h l = ((let c = h.0.0 in omega arith, λ _. omega arith), loosen ys h.1 l)

-- ---- added edges of a source
from_all : (P : TaskEdge → Type 0) (k : ℕ) (xs : List TaskEdge) → AllByRecursion P xs
    → AllByRecursion P (from_source k xs)
from_all P k [] h = tt
from_all P k (x ∷ xs) h = elim (cases_lt x.source k) [
  | inl low ↦ rw (lt-ltb x.source k low) (from_all P k xs h.1)
  | inr past ↦ rw (le-ltb x.source k past) h
]

from_has : (k dst : ℕ) (xs : List TaskEdge)
    → has_mine k xs dst ≡ has_mine k (from_source k xs) dst
from_has k dst [] = refl
from_has k dst (x ∷ xs) = elim (cases_lt x.source k) [
  | inl low ↦
      rw (lt-ltb x.source k low)
      (ap (λ b. (b && eqb x.edge.dst dst) || has_mine k xs dst)
      (ne_eqb x.source k (λ q. omega arith))
      ∙ from_has k dst xs)
  | inr past ↦ rw (le-ltb x.source k past) refl
]

any_alike : {X : Type 0} (p q : X → Bool) (xs : List X) → AllByRecursion (λ x. p x ≡ q x) xs
    → list_any p xs ≡ list_any q xs
any_alike p q [] h = refl
any_alike p q (x ∷ xs) h = let rest = any_alike p q xs h.1 in λ j. h.0 j || rest j

-- ---- edges of a graph
below_ends : (k : Pair) (es : List (Pair × ℤ)) → T (below_all pair_cmp k es)
    → AllByRecursion (λ (f : Pair × ℤ). f.0.0 ≡ k.0 → k.1 + 1 ≤ f.0.1) es
below_ends k [] h = tt
below_ends k (e ∷ es) h =
    let b = both_hold (is_lt (pair_cmp k e.0)) (below_all pair_cmp k es) h in (
      λ same. elim (pair_before k e.0 b.0) [
        | inl low ↦ absurd (omega arith)
        | inr even ↦ let d = even.1 in omega arith
      ],
      below_ends k es b.1,
    )

ends_rise : (u a : ℕ) (es : List (Pair × ℤ)) → T (is_sorted pair_cmp es)
    → AllByRecursion (λ (f : Pair × ℤ). f.0.0 ≡ u → a ≤ f.0.1) es
    → EndsFrom a (filter (λ e. eqb e.src u) (map edge es))
ends_rise u a [] s h = tt
ends_rise u a (e ∷ es) s h =
    let b = both_hold (below_all pair_cmp e.0 es) (is_sorted pair_cmp es) s in
    elim (cases_eq e.0.0 u) [
      | inl same ↦
          rw (eq-eqb e.0.0 u same)
          (h.0 same, ends_rise u (e.0.1 + 1) es b.1 (lift es (below_ends e.0 es b.0) same))
      | inr apart ↦ rw (ne_eqb e.0.0 u apart) (ends_rise u a es b.1 h.1)
    ]
  where
    lift : (fs : List (Pair × ℤ))
        → AllByRecursion (λ (f : Pair × ℤ). f.0.0 ≡ e.0.0 → e.0.1 + 1 ≤ f.0.1) fs → e.0.0 ≡ u
        → AllByRecursion (λ (f : Pair × ℤ). f.0.0 ≡ u → e.0.1 + 1 ≤ f.0.1) fs
    lift [] h same = tt
    lift (f ∷ fs) h same = (λ q. h.0 (q ∙ sym same), lift fs h.1 same)

end_test : (a d : ℕ) → eqb a d ≡ eq_by_cmp nat_cmp d a
end_test a d = elim (cases_eq a d) [
  | inl same ↦ eq-eqb a d same ∙ sym (equal_tied d a (sym same))
  | inr apart ↦ ne_eqb a d apart ∙ sym (unequal_untied d a (λ q. apart (sym q)))
]

end_found : (u d : ℕ) (es : List (Pair × ℤ))
    → has_end (filter (λ e. eqb e.src u) (map edge es)) d
    ≡ list_any (eq_by_cmp pair_cmp (u, d)) (map (λ e. e.0) es)
end_found u d [] = refl
end_found u d (e ∷ es) = elim (cases_eq e.0.0 u) [
  | inl same ↦
      rw (eq-eqb e.0.0 u same)
      (λ j. (end_test e.0.1 d ∙ sym (same_src u d e.0.0 e.0.1 (sym same))) j || end_found u d es j)
  | inr apart ↦
      rw (ne_eqb e.0.0 u apart)
      (end_found u d es ∙ ap (λ b. b || list_any (eq_by_cmp pair_cmp (u, d)) (map (λ f. f.0) es))
      (sym (other_src u d e.0.0 e.0.1 (λ q. apart (sym q)))))
]

-- an edge of the graph is among those out of its source
pub edge_ends : (g : Graph) (e : Edge) (u : ℕ) → HasEdge g e → u ≡ e.src
    → has_end (out_edges g u) e.dst ≡ true
edge_ends g e u has is =
    end_found u e.dst (finite.entries g.weights)
    ∙ sym (finite.contains_key-keys g.weights (u, e.dst))
    ∙ ap (λ v. is_some (finite.get g.weights (v, e.dst))) is
    ∙ ap is_some has

pub some_end : (es : List Edge) (d : ℕ) → has_end es d ≡ true → 1 ≤ length es
some_end [] d h = absurd (cc)
some_end (e ∷ es) d h = omega arith

pub out_ends_rise : (g : Graph) (u : ℕ) → EndsFrom 0 (out_edges g u)
out_ends_rise g u =
    ends_rise u 0 (finite.entries g.weights) (finite.entries_sorted g.weights)
    (always (finite.entries g.weights))
  where
    always : (es : List (Pair × ℤ))
        → AllByRecursion (λ (f : Pair × ℤ). f.0.0 ≡ u → 0 ≤ f.0.1) es
    always [] = tt
    always (e ∷ es) = (λ _. omega arith, always es)

-- ---- the walk of a dirty source
module _ (p : ProgramEntries) (g : Graph) (t : Tasks) (agrees : AgreesWith p g t) where
  placed : AllByRecursion (IsPlaced t) t.added
  placed = recursion_from_All (IsPlaced t) t.added (λ i d h. (agrees.added i d h).placed)

  are_among : (k : ℕ) (xs : List TaskEdge) → AllByRecursion (IsPlaced t) xs
      → AllByRecursion (λ x. HasEdge g x.edge) xs
      → AreAmong k (out_edges g (source_at t k).vertex) xs
  are_among k [] ps hs = tt
  are_among k (x ∷ xs) ps hs = (
    λ e. edge_ends g x.edge (source_at t k).vertex hs.0
        (ap (λ i. (source_at t i).vertex) (sym e) ∙ ps.0.source),
    are_among k xs ps.1 hs.1,
  )

  same_test : (k : ℕ) (e : Edge) (x : TaskEdge) → k < length t.sources
      → e.src ≡ (source_at t k).vertex → IsPlaced t x → eqb x.edge.src e.src ≡ eqb x.source k
  same_test k e x h is at = elim (cases_eq x.source k) [
    | inl same ↦
        eq-eqb x.edge.src e.src (sym at.source ∙ ap (λ i. (source_at t i).vertex) same ∙ sym is)
        ∙ sym (eq-eqb x.source k same)
    | inr apart ↦
        ne_eqb x.edge.src e.src
        (λ q. apart (same_place t agrees.sources_rise x.source k at.place h
        (at.source ∙ q ∙ is)))
        ∙ sym (ne_eqb x.source k apart)
  ]

  same_tests : (k : ℕ) (e : Edge) (xs : List TaskEdge) → k < length t.sources
      → e.src ≡ (source_at t k).vertex → AllByRecursion (IsPlaced t) xs
      → AllByRecursion
      (λ x. (eqb x.edge.src e.src && eqb x.edge.dst e.dst) ≡ is_mine k e.dst x) xs
  same_tests k e [] h is ps = tt
  same_tests k e (x ∷ xs) h is ps = (
    ap (λ b. b && eqb x.edge.dst e.dst) (same_test k e x h is ps.0),
    same_tests k e xs h is ps.1,
  )

  added_mine : (k : ℕ) (e : Edge) → k < length t.sources → e.src ≡ (source_at t k).vertex
      → is_added t e ≡ has_mine k (from_source k t.added) e.dst
  added_mine k e h is =
      any_alike (λ x. eqb x.edge.src e.src && eqb x.edge.dst e.dst) (is_mine k e.dst) t.added
      (same_tests k e t.added h is placed)
      ∙ from_has k e.dst t.added

  added_by_source : (k : ℕ) (es : List Edge) → k < length t.sources
      → AllByRecursion (λ (e : Edge). e.src ≡ (source_at t k).vertex) es
      → AllByRecursion
      (λ e. not (has_mine k (from_source k t.added) e.dst) ≡ not (is_added t e)) es
  added_by_source k [] h ss = tt
  added_by_source k (e ∷ es) h ss =
      (ap not (sym (added_mine k e h ss.0)), added_by_source k es h ss.1)

  out_sources : (u : ℕ) (es : List Edge)
      → AllByRecursion (λ (e : Edge). e.src ≡ u) (filter (λ e. eqb e.src u) es)
  out_sources u [] = tt
  out_sources u (e ∷ es) = elim (cases_eq e.src u) [
    | inl same ↦ rw (eq-eqb e.src u same) (same, out_sources u es)
    | inr apart ↦ rw (ne_eqb e.src u apart) (out_sources u es)
  ]

  -- what the walk leaves is what stayed
  pub walked_stayed : (k : ℕ) → k < length t.sources → walked_out g t k ≡ stayed_out g t k
  walked_stayed k h =
      let u : ℕ = (source_at t k).vertex in
      let xs : List TaskEdge = from_source k t.added in
      let hs = recursion_from_All (λ x. HasEdge g x.edge) t.added agrees.come in
      walk_is_filter k 0 xs (out_edges g u)
      (from_is_mine t agrees.sources_rise k t.added agrees.added_rise placed)
      (out_ends_rise g u)
      (are_among k xs (from_all (IsPlaced t) k t.added placed)
      (from_all (λ x. HasEdge g x.edge) k t.added hs))
      ∙ filter_alike (λ e. not (has_mine k xs e.dst)) (λ e. not (is_added t e)) (out_edges g u)
      (added_by_source k (out_edges g u) h (out_sources u (edges g)))

  -- a source with an added edge has an edge
  pub added_has : All (λ x. 1 ≤ (source_at t x.source).new_degree) t.added
  added_has i d h =
      let x = get_or t.added i d in
      let at = (agrees.added i d h).placed in
      let s = agrees.sources x.source no_source at.place in
      let some = some_end (out_edges g (source_at t x.source).vertex) x.edge.dst
      (edge_ends g x.edge (source_at t x.source).vertex (agrees.come i d h) at.source) in
      let degree = s.degree in
      omega arith
