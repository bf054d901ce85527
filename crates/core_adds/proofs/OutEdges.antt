-- The edges of a graph are those out of one vertex after the other.
use Rattle.std.proofs.Common.{◌≡◌, ℕ, ℤ, ◌+◌, ◌≤◌, true, cond, eqb, List, [], ◌∷◌, ◌++◌, map}
use Rattle.std.proofs.Common.{filter, T, refl, sym, ap, ◌∙◌, arith, inl, inr}
use Rattle.std.specs.Prelude.{nat_lt}
use Rattle.std.specs.FinMap as finite
use Rattle.std.specs.FinMap.{is_sorted}
use Rattle.std.specs.FinMap.Entries.{below_all}
use Rattle.std.specs.List.{AllByRecursion}
use Rattle.std.specs.Ordering.{is_lt}
use Rattle.std.proofs.lemmas.Bool.{cases_eq, cases_lt, eq-eqb, ne_eqb, le-ltb, lt-ltb}
use Rattle.std.proofs.lemmas.List.Elements.{recursion_from_All}
use Rattle.bolt_base.specs.Graph.{Graph, IsGood, Pair, pair_cmp, edge, edges, out_edges, vertices}
use Rattle.bolt_base.specs.declared.edge.Edge.{Edge}
use Rattle.bolt_base.specs.declared.limits.Limits.{Limits}
use Rattle.bolt_base.proofs.SortedKeys.{both_hold}
use Rattle.edge_map.proofs.RisingTasks.{pair_before}
use Rattle.edge_map.proofs.Unadded.{filter_all}

-- the sources rise or stay, from a on
abbrev SourcesFrom : ℕ → List Edge → Type 0
SourcesFrom a [] = Unit {0}
SourcesFrom a (e ∷ es) = (a ≤ e.src) × SourcesFrom e.src es

-- those of lower sources
abbrev below : ℕ → List Edge → List Edge
below u es = filter (λ e. nat_lt e.src u) es

abbrev at_source : ℕ → List Edge → List Edge
at_source u es = filter (λ e. eqb e.src u) es

none_below : (u a : ℕ) (es : List Edge) → u ≤ a → SourcesFrom a es → below u es ≡ []
none_below u a [] low h = refl
none_below u a (e ∷ es) low h =
    let c = h.0 in
    ap (λ b. cond b (e ∷ below u es) (below u es)) (le-ltb e.src u (omega arith))
    ∙ none_below u e.src es (omega arith) h.1

-- an edge in front of those that rise behind it
in_front : (u : ℕ) (e : Edge) (es : List Edge) → SourcesFrom e.src es
    → below (u + 1) es ≡ below u es ++ at_source u es
    → below (u + 1) (e ∷ es) ≡ below u (e ∷ es) ++ at_source u (e ∷ es)
in_front u e es up rest = elim (cases_lt e.src u) [
  | inl low ↦
      let a = lt-ltb e.src (u + 1) (omega arith) in
      let b = lt-ltb e.src u low in
      let c = ne_eqb e.src u (λ q. omega arith) in
      ap (λ t. cond t (e ∷ below (u + 1) es) (below (u + 1) es)) a
      ∙ ap (λ l. e ∷ l) rest
      ∙ sym (λ j. cond (b j) (e ∷ below u es) (below u es)
      ++ cond (c j) (e ∷ at_source u es) (at_source u es))
  | inr high ↦ elim (cases_eq e.src u) [
    | inl same ↦
        let a = lt-ltb e.src (u + 1) (omega arith) in
        let b = le-ltb e.src u high in
        let c = eq-eqb e.src u same in
        let none = none_below u e.src es high up in
        ap (λ t. cond t (e ∷ below (u + 1) es) (below (u + 1) es)) a
        ∙ ap (λ l. e ∷ l) (rest ∙ ap (λ l. l ++ at_source u es) none)
        ∙ sym (ap (λ l. l ++ e ∷ at_source u es) none)
        ∙ sym (λ j. cond (b j) (e ∷ below u es) (below u es)
        ++ cond (c j) (e ∷ at_source u es) (at_source u es))
    | inr apart ↦
        let a = le-ltb e.src (u + 1) (omega arith) in
        let b = le-ltb e.src u high in
        let c = ne_eqb e.src u apart in
        ap (λ t. cond t (e ∷ below (u + 1) es) (below (u + 1) es)) a
        ∙ rest
        ∙ sym (λ j. cond (b j) (e ∷ below u es) (below u es)
        ++ cond (c j) (e ∷ at_source u es) (at_source u es))
  ]
]

one_source_more : (u a : ℕ) (es : List Edge) → SourcesFrom a es
    → below (u + 1) es ≡ below u es ++ at_source u es
one_source_more u a [] h = refl
one_source_more u a (e ∷ es) h = in_front u e es h.1 (one_source_more u e.src es h.1)

-- ---- the edges of a graph
later : (k : Pair) (es : List (Pair × ℤ)) → T (below_all pair_cmp k es)
    → AllByRecursion (λ (f : Pair × ℤ). k.0 ≤ f.0.0) es
later k [] h = tt
later k (e ∷ es) h =
    let b = both_hold (is_lt (pair_cmp k e.0)) (below_all pair_cmp k es) h in (
      elim (pair_before k e.0 b.0) [
        | inl low ↦ omega arith
        | inr even ↦ let s = even.0 in omega arith
      ],
      later k es b.1,
    )

sources_rise : (a : ℕ) (es : List (Pair × ℤ)) → T (is_sorted pair_cmp es)
    → AllByRecursion (λ (f : Pair × ℤ). a ≤ f.0.0) es → SourcesFrom a (map edge es)
sources_rise a [] s h = tt
sources_rise a (e ∷ es) s h =
    let b = both_hold (below_all pair_cmp e.0 es) (is_sorted pair_cmp es) s in
    (h.0, sources_rise e.0.0 es b.1 (later e.0 es b.0))

edges_rise : (g : Graph) → SourcesFrom 0 (edges g)
edges_rise g =
    sources_rise 0 (finite.entries g.weights) (finite.entries_sorted g.weights)
    (always (finite.entries g.weights))
  where
    always : (es : List (Pair × ℤ)) → AllByRecursion (λ (f : Pair × ℤ). 0 ≤ f.0.0) es
    always [] = tt
    always (e ∷ es) = (omega arith, always es)

pub no_source : (g : Graph) → filter (λ e. nat_lt e.src 0) (edges g) ≡ []
no_source g = none_below 0 0 (edges g) (omega arith) (edges_rise g)

pub next_source : (g : Graph) (u : ℕ) → filter (λ e. nat_lt e.src u) (edges g) ++ out_edges g u
    ≡ filter (λ e. nat_lt e.src (u + 1)) (edges g)
next_source g u = sym (one_source_more u 0 (edges g) (edges_rise g))

pub every_source : (l : Limits) (g : Graph) (u : ℕ) → IsGood l g → vertices g ≤ u
    → filter (λ e. nat_lt e.src u) (edges g) ≡ edges g
every_source l g u good past =
    filter_all (λ e. nat_lt e.src u) (edges g)
    (recursion_from_All (λ (e : Edge). nat_lt e.src u ≡ true) (edges g)
    (λ k d h. let ends = (good.ends k d h).0 in lt-ltb _ u (omega arith)))
