-- Edits that aren't bad keep a graph within its limits.
use Rattle.std.proofs.Common.{◌≡◌, T, ℕ, ℤ, ◌+◌, ◌<◌, ◌≤◌, ◌≤ℤ◌, Bool, true, false, not, ◌&&◌, cond}
use Rattle.std.proofs.Common.{eqb, ltb, List, [], ◌∷◌, ◌++◌, length, set, refl, sym, ap, ◌∙◌, subst}
use Rattle.std.proofs.Common.{arith, inl, inr, ◌⊎◌, Option, Some, None, length-append}
use Rattle.std.specs.Prelude.{is_some, int_le}
use Rattle.std.proofs.lemmas.Bool.{ltb-true, eqb-true, and_parts, or_cases, not-true, cases_Bool}
use Rattle.std.proofs.lemmas.List.{length-set}
use Rattle.std.proofs.lemmas.List.Elements.{All-set, All-push}
use Rattle.std.specs.List.{All}
use Rattle.std.specs.FinMap as finite
pub use Rattle.bolt_base.specs.GoodEdits.{IsGoodAddition, IsGoodCut, IsGoodSetting}
use Rattle.bolt_base.specs.Graph.{Graph, IsGood, IsBetween, edges, outdeg, indeg, within}
use Rattle.bolt_base.specs.Edits.{edited, after, one, unless, bad_from, bad, with_attr, is_between}
use Rattle.bolt_base.specs.Edits.{has_vertices, has_edge, has_degrees, has_room, may_be_set}
use Rattle.bolt_base.specs.declared.edge.Edge.{Edge}
use Rattle.bolt_base.specs.declared.edge.Edit.{Edit}
use Rattle.bolt_base.specs.declared.edge.Edit.TheVariants.{Add, Cut, Attr}
use Rattle.bolt_base.specs.declared.limits.Limits.{Limits}
use Rattle.bolt_base.specs.declared.limits.LineCause.{LineCause}
use Rattle.bolt_base.specs.declared.limits.LineCause.TheVariants.{Vertex, Weight, Attribute}
use Rattle.bolt_base.specs.declared.limits.LineCause.TheVariants.{Present, Absent, Degree, Edges}
use Rattle.bolt_base.proofs.BadLemmas.{first_good}
use Rattle.bolt_base.proofs.EditLemmas.{one_if, length_added, outdeg_added, indeg_added, All-added}
use Rattle.bolt_base.proofs.EditLemmas.{length_cut, outdeg_cut, indeg_cut, All-cut}

-- ---- what tests say
unless_none : (b : Bool) (cause : LineCause) (rest : Option LineCause) → unless b cause rest ≡ None
    → (b ≡ true) × (rest ≡ None)
unless_none true cause rest h = (refl, h)
unless_none false cause rest h = cc

none_there : {X : Type 0} (o : Option X) → is_some o ≡ false → o ≡ None
none_there None h = refl
none_there (Some x) h = cc

some_there : {X : Type 0} (o : Option X) → is_some o ≡ true → (x : X) × (o ≡ Some x)
some_there None h = absurd (cc)
some_there (Some x) h = (x, refl)

pub at_most : (a b : ℤ) → int_le a b ≡ true → a ≤ℤ b
at_most a b h = record { le = subst T (sym h) tt }

pub is_between-true : (lo hi x : ℤ) → is_between lo hi x ≡ true → IsBetween lo hi x
is_between-true lo hi x h = let parts = and_parts (int_le lo x) (int_le x hi) h in
    (at_most lo x parts.0, at_most x hi parts.1)

pub both_below : (a b c d : ℕ) → (ltb a b && ltb c d) ≡ true → (a < b) × (c < d)
both_below a b c d h = let parts = and_parts (ltb a b) (ltb c d) h in
    (ltb-true a b parts.0, ltb-true c d parts.1)

-- ---- what a good addition, a good cut and a good attribute edit find
pub good_addition : (l : Limits) (g : Graph) (e : Edge) → one l g (Add e) ≡ None
    → IsGoodAddition l g e
good_addition l g e h =
    let a = unless_none (has_vertices g e.src e.dst) Vertex _ h in
    let b = unless_none (is_between l.weight_lo l.weight_hi e.weight) Weight _ a.1 in
    let c = unless_none (not (has_edge g e.src e.dst)) Present _ b.1 in
    let d = unless_none (has_degrees l g e.src e.dst) Degree _ c.1 in
    let f = unless_none (has_room l g) Edges None d.1 in
    let ends = both_below e.src (length g.attrs) e.dst (length g.attrs) a.0 in
    let degrees = both_below (outdeg g e.src) l.degree (indeg g e.dst) l.degree d.0 in
    record {
      src = ends.0;
      dst = ends.1;
      weight = is_between-true l.weight_lo l.weight_hi e.weight b.0;
      absent = none_there (finite.get g.weights (e.src, e.dst))
          (not-true (has_edge g e.src e.dst) c.0);
      out_degree = degrees.0;
      in_degree = degrees.1;
      room = ltb-true (length (edges g)) l.edges f.0;
    }

pub good_cut : (l : Limits) (g : Graph) (s d : ℕ) → one l g (Cut s d) ≡ None → IsGoodCut g s d
good_cut l g s d h =
    let a = unless_none (has_vertices g s d) Vertex _ h in
    let b = unless_none (has_edge g s d) Absent None a.1 in
    let ends = both_below s (length g.attrs) d (length g.attrs) a.0 in
    let edge = some_there (finite.get g.weights (s, d)) b.0 in
    record { src = ends.0; dst = ends.1; weight = edge.0; there = edge.1 }

-- ---- an attribute set or added
pub length-with_attr : (attrs : List ℤ) (v : ℕ) (a : ℤ)
    → length (with_attr attrs v a) ≡ one_if (eqb v (length attrs)) + length attrs
length-with_attr attrs v a = elim (eqb v (length attrs)) as
    (λ b. length (cond b (attrs ++ a ∷ []) (set attrs v a)) ≡ one_if b + length attrs) [
      | true ↦ omega (arith, length-append attrs (a ∷ []))
      | false ↦ omega (arith, length-set attrs v a)
    ]

pub All-with_attr : (P : ℤ → Type 0) (attrs : List ℤ) (v : ℕ) (a : ℤ) → P a → All P attrs
    → All P (with_attr attrs v a)
All-with_attr P attrs v a here all = elim (eqb v (length attrs)) as
    (λ b. All P (cond b (attrs ++ a ∷ []) (set attrs v a))) [
      | true ↦ All-push P attrs a all here
      | false ↦ All-set P attrs v a here all
    ]

pub good_setting : (l : Limits) (g : Graph) (v : ℕ) (a : ℤ) → length g.attrs ≤ l.vertices
    → one l g (Attr v a) ≡ None → IsGoodSetting l g v a
good_setting l g v a fits h =
    let m = unless_none (may_be_set l g v) Vertex _ h in
    let b = unless_none (is_between l.attr_lo l.attr_hi a) Attribute None m.1 in
    let long = length-with_attr g.attrs v a in
    let at : (v < length g.attrs) ⊎ ((v ≡ length g.attrs) × (length g.attrs < l.vertices)) = elim
    (or_cases (ltb v (length g.attrs))
    (eqb v (length g.attrs) && ltb (length g.attrs) l.vertices) m.0) [
      | inl t ↦ inl (ltb-true v (length g.attrs) t)
      | inr t ↦ let parts = and_parts (eqb v (length g.attrs)) (ltb (length g.attrs) l.vertices) t
          in inr (eqb-true v (length g.attrs) parts.0, ltb-true (length g.attrs) l.vertices parts.1)
    ] in
    record {
      few = elim (cases_Bool (eqb v (length g.attrs))) [
        | inl t ↦
            let last = eqb-true v (length g.attrs) t in
            let one : length (with_attr g.attrs v a) ≡ 1 + length g.attrs = long
            ∙ ap (λ b. one_if b + length g.attrs) t in
            elim at [ inl below ↦ omega arith | inr p ↦ let free = p.1 in omega arith ]
        | inr f ↦ let same : length (with_attr g.attrs v a) ≡ 0 + length g.attrs = long
            ∙ ap (λ b. one_if b + length g.attrs) f in omega arith
      ];
      known = elim at [ inl below ↦ omega arith | inr p ↦ let is = p.0 in omega arith ];
      attr = is_between-true l.attr_lo l.attr_hi a b.0;
    }

-- ---- a good edit keeps a graph good
few_more : (b : Bool) (n u d : ℕ) → (b ≡ true → n < d) → n ≤ d → one_if b + n ≤ d
few_more true n u d free fits = let room = free refl in omega arith
few_more false n u d free fits = omega arith

pub good_edited : (l : Limits) (g : Graph) (e : Edit) → IsGood l g → one l g e ≡ None
    → IsGood l (edited g e)
good_edited l g (Add e) good h =
    let a = good_addition l g e h in
    record {
      few_vertices = good.few_vertices;
      few_edges = let room = a.room in omega (arith, length_added g e a.absent);
      attrs = good.attrs;
      weights = All-added g e a.absent (λ x. IsBetween l.weight_lo l.weight_hi x.weight) a.weight
          good.weights;
      ends = All-added g e a.absent (λ x. (x.src < length g.attrs) × (x.dst < length g.attrs))
          (a.src, a.dst) good.ends;
      out_degrees = λ u. subst (λ n. n ≤ l.degree) (sym (outdeg_added g e a.absent u))
          (few_more (eqb e.src u) (outdeg g u) u l.degree
          (λ t. subst (λ k. outdeg g k < l.degree) (eqb-true e.src u t) a.out_degree)
          (good.out_degrees u));
      in_degrees = λ v. subst (λ n. n ≤ l.degree) (sym (indeg_added g e a.absent v))
          (few_more (eqb e.dst v) (indeg g v) v l.degree
          (λ t. subst (λ k. indeg g k < l.degree) (eqb-true e.dst v t) a.in_degree)
          (good.in_degrees v));
    }
good_edited l g (Cut s d) good h =
    let c = good_cut l g s d h in
    record {
      few_vertices = good.few_vertices;
      few_edges = let fits = good.few_edges in omega (arith, length_cut g s d c.weight c.there);
      attrs = good.attrs;
      weights = (All-cut g s d c.weight c.there (λ x. IsBetween l.weight_lo l.weight_hi x.weight)
          good.weights).1;
      ends = (All-cut g s d c.weight c.there
          (λ x. (x.src < length g.attrs) × (x.dst < length g.attrs)) good.ends).1;
      out_degrees = λ u. let fits = good.out_degrees u in omega
          (arith, outdeg_cut g s d c.weight c.there u);
      in_degrees = λ v. let fits = good.in_degrees v in omega
          (arith, indeg_cut g s d c.weight c.there v);
    }
good_edited l g (Attr v a) good h =
    let s = good_setting l g v a good.few_vertices h in
    let grown : length g.attrs ≤ length (with_attr g.attrs v a) = omega
    (arith, length-with_attr g.attrs v a) in
    record {
      few_vertices = s.few;
      few_edges = good.few_edges;
      attrs = All-with_attr (IsBetween l.attr_lo l.attr_hi) g.attrs v a s.attr good.attrs;
      weights = good.weights;
      ends = λ k d i. let inside = good.ends k d i in let src = inside.0 in let dst = inside.1 in
          (omega arith, omega arith);
      out_degrees = good.out_degrees;
      in_degrees = good.in_degrees;
    }

pub good_from : (l : Limits) (g : Graph) (k : ℕ) (edits : List Edit) → IsGood l g
    → bad_from l g k edits ≡ None → IsGood l (after g edits)
good_from l g k [] good h = good
good_from l g k (e ∷ es) good h =
    let parts = first_good (one l g e) k (bad_from l (edited g e) (k + 1) es) h in
    good_from l (edited g e) (k + 1) es (good_edited l g e good parts.0) parts.1

pub good_after : (l : Limits) (g : Graph) (edits : List Edit) → IsGood l g → bad l g edits ≡ None
    → IsGood l (after g edits)
good_after l g edits good h = good_from l g 0 edits good h

-- ---- the limits of a graph that began with n vertices
pub good_within : (l : Limits) (g : Graph) → IsGood l g → IsGood (within l (length g.attrs)) g
good_within l g good = record {
  few_vertices = let fits = good.few_vertices in omega arith;
  few_edges = good.few_edges;
  attrs = good.attrs;
  weights = good.weights;
  ends = good.ends;
  out_degrees = good.out_degrees;
  in_degrees = good.in_degrees;
}

pub good_without : (l : Limits) (n : ℕ) (g : Graph) → IsGood (within l n) g → IsGood l g
good_without l n g good = record {
  few_vertices = let fits = good.few_vertices in omega arith;
  few_edges = good.few_edges;
  attrs = good.attrs;
  weights = good.weights;
  ends = good.ends;
  out_degrees = good.out_degrees;
  in_degrees = good.in_degrees;
}
