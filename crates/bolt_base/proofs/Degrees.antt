-- All degrees sum to the number of edges.
use Rattle.std.proofs.Common.{◌≡◌, ℕ, zero, suc, ◌+◌, ◌<◌, ◌≤◌, Bool, true, false, cond, eqb, List}
use Rattle.std.proofs.Common.{[], ◌∷◌, filter, length, refl, ap, ◌∙◌, arith, inl, inr}
use Rattle.std.specs.Prelude.{sum_by}
use Rattle.std.specs.List.{All, AllByRecursion, range_with_len}
use Rattle.std.proofs.lemmas.Bool.{eq-eqb, ne_eqb, cases_eq}
use Rattle.std.proofs.lemmas.List.Elements.{recursion_from_All}
use Rattle.std.proofs.lemmas.List.Sums.{sum_by-cons}
use Rattle.bolt_base.specs.Graph.{Graph, edges, outdeg, indeg, vertices}
use Rattle.bolt_base.specs.declared.edge.Edge.{Edge}

pub sum_by-plus : (f g : ℕ → ℕ) (us : List ℕ)
    → sum_by (λ u. f u + g u) us ≡ sum_by f us + sum_by g us
sum_by-plus f g [] = refl
sum_by-plus f g (u ∷ us) =
    omega (
      arith,
      sum_by-cons (λ x. f x + g x) u us,
      sum_by-cons f u us,
      sum_by-cons g u us,
      sum_by-plus f g us,
    )

pub sum_by-same : (f g : ℕ → ℕ) → ((u : ℕ) → f u ≡ g u) → (us : List ℕ) → sum_by f us ≡ sum_by g us
sum_by-same f g h us = λ j. sum_by (λ u. h u j) us

one_if : Bool → ℕ
one_if b = cond b 1 0

module _ (key : Edge → ℕ) where
  with_key : ℕ → List Edge → ℕ
  with_key v es = length (filter (λ e. eqb (key e) v) es)

  with_key-cons : (v : ℕ) (e : Edge) (es : List Edge)
      → with_key v (e ∷ es) ≡ one_if (eqb (key e) v) + with_key v es
  unfolding with_key one_if
  with_key-cons v e es = elim (eqb (key e) v) as
      (λ b. length (cond b (e ∷ filter (λ x. eqb (key x) v) es) (filter (λ x. eqb (key x) v) es))
      ≡ cond b 1 0 + length (filter (λ x. eqb (key x) v) es))
      [ true ↦ omega arith | false ↦ omega arith ]

  no_key_above : (s a n : ℕ) → s < a → sum_by (λ v. one_if (eqb s v)) (range_with_len a n) ≡ 0
  unfolding one_if
  no_key_above s a zero h = refl
  no_key_above s a (suc n) h =
      let first : one_if (eqb s a) ≡ 0 = ap (λ b. cond {A = ℕ} b 1 0)
      (ne_eqb s a (λ e. omega arith)) in
      sum_by-cons (λ v. one_if (eqb s v)) a (range_with_len (a + 1) n)
      ∙ (λ j. first j + no_key_above s (a + 1) n (omega arith) j)

  one_key_in_range : (s a n : ℕ) → a ≤ s → s < a + n
      → sum_by (λ v. one_if (eqb s v)) (range_with_len a n) ≡ 1
  unfolding one_if
  one_key_in_range s a zero l h = absurd (omega arith)
  one_key_in_range s a (suc n) l h =
      sum_by-cons (λ v. one_if (eqb s v)) a (range_with_len (a + 1) n)
      ∙ elim (cases_eq s a) [
        | inl e ↦
            let first : one_if (eqb s a) ≡ 1 = ap (λ b. cond {A = ℕ} b 1 0) (eq-eqb s a e) in
            (λ j. first j + no_key_above s (a + 1) n (omega arith) j)
        | inr d ↦
            let first : one_if (eqb s a) ≡ 0 = ap (λ b. cond {A = ℕ} b 1 0) (ne_eqb s a d) in
            (λ j. first j + one_key_in_range s (a + 1) n (omega arith) (omega arith) j)
      ]

  sum_of_no_edges : (ks : List ℕ) → sum_by (λ v. with_key v []) ks ≡ 0
  unfolding with_key
  sum_of_no_edges [] = refl
  sum_of_no_edges (k ∷ ks) = let a = sum_by-cons (λ v. with_key v []) k ks in let r =
      sum_of_no_edges ks in omega arith

  pub all_keys : (n : ℕ) (es : List Edge) → AllByRecursion (λ e. key e < n) es
      → sum_by (λ v. length (filter (λ e. eqb (key e) v) es)) (range_with_len 0 n) ≡ length es
  unfolding with_key
  all_keys n [] h = sum_of_no_edges (range_with_len 0 n)
  all_keys n (e ∷ es) h =
      sum_by-same (λ v. with_key v (e ∷ es)) (λ v. one_if (eqb (key e) v) + with_key v es)
      (λ v. with_key-cons v e es) (range_with_len 0 n)
      ∙ sum_by-plus (λ v. one_if (eqb (key e) v)) (λ v. with_key v es) (range_with_len 0 n)
      ∙ (λ j. one_key_in_range (key e) 0 n (omega arith) (omega (arith, h.0)) j + all_keys n es h.1
      j)
      ∙ (let one : 1 + length es ≡ length (e ∷ es) = omega arith in one)

module _ (g : Graph) (ends : All (λ e. (e.src < vertices g) × (e.dst < vertices g)) (edges g)) where
  pub all_in : sum_by (indeg g) (range_with_len 0 (vertices g)) ≡ length (edges g)
  all_in = all_keys (λ (e : Edge). e.dst) (vertices g) (edges g)
      (recursion_from_All (λ (e : Edge). e.dst < vertices g) (edges g) (λ k d l. (ends k d l).1))

  pub all_out : sum_by (outdeg g) (range_with_len 0 (vertices g)) ≡ length (edges g)
  all_out = all_keys (λ (e : Edge). e.src) (vertices g) (edges g)
      (recursion_from_All (λ (e : Edge). e.src < vertices g) (edges g) (λ k d l. (ends k d l).0))
