-- What is found among puts, by the numbers of their vertices.
use Rattle.std.proofs.Common.{◌≡◌, ℕ, zero, suc, ◌<◌, false, cond, eqb, [], ◌∷◌, length, get_or}
use Rattle.std.proofs.Common.{Some, None, inl, inr, refl, sym, ap, ◌∙◌, arith}
use Rattle.std.specs.List.{list_any}
use Rattle.std.specs.Map.{lookup}
use Rattle.std.proofs.lemmas.Bool.{cases_Bool, ne_eqb, eq-eqb, or_parts}
use Rattle.std.proofs.lemmas.Option.{none-some}
use Rattle.std.proofs.lemmas.List.{length-map, get_or-map}
use Rattle.bolt_base.specs.Keep.{Entry, no_entry}
use Rattle.agg_history.specs.Puts.{Round}
use Rattle.agg_history.specs.PutList.{put_in}
use Rattle.agg_history.specs.OverlayOf.{vertices_in}
use Rattle.agg_history.specs.Numbered.{AreNumbered}
use Rattle.agg_history.proofs.NumberLemmas.{any_place}

lookup_none : (round : Round) (v : ℕ) → list_any (λ u. eqb v u) (vertices_in round) ≡ false
    → lookup (λ u. eqb v u) round ≡ None
lookup_none [] v h = refl
lookup_none (put ∷ round) v h =
    let parts = or_parts (eqb v put.0) (list_any (λ u. eqb v u) (vertices_in round)) h in
    ap (λ b. cond b (Some put.1) (lookup (λ u. eqb v u) round)) parts.0
    ∙ lookup_none round v parts.1

-- the first put of a vertex is found
lookup_first : (round : Round) (v p : ℕ) → p < length round → (put_in round p).0 ≡ v
    → ((q : ℕ) → q < p → (put_in round q).0 ≡ v → ⊥)
    → lookup (λ u. eqb v u) round ≡ Some (put_in round p).1
lookup_first [] v p l e before = absurd (omega arith)
lookup_first (put ∷ round) v zero l e before = ap
    (λ b. cond b (Some put.1) (lookup (λ u. eqb v u) round)) (eq-eqb v put.0 (sym e))
lookup_first (put ∷ round) v (suc p) l e before =
    ap (λ b. cond b (Some put.1) (lookup (λ u. eqb v u) round))
    (ne_eqb v put.0 (λ same. before 0 (omega arith) (sym same)))
    ∙ lookup_first round v p (omega arith) e (λ q m same. before (suc q) (omega arith) same)

module _ (number : ℕ → ℕ) (n : ℕ) (round : Round) (h : AreNumbered number n (vertices_in round))
    (v : ℕ) (inside : v < n) where
  vertex_at : (p : ℕ) → p < length round → get_or (vertices_in round) p 0 ≡ (put_in round p).0
  vertex_at p l = get_or-map (λ (put : ℕ × Entry). put.0) round p (0, no_entry) 0 l

  pub place_within : (p : ℕ) → number v ≡ suc p → p < length round
  place_within p e = let l = h.within v p inside e in
      omega (arith, length-map round (λ (put : ℕ × Entry). put.0))

  -- a vertex with a number has the put at its place
  pub numbered_put : (p : ℕ) → number v ≡ suc p
      → lookup (λ u. eqb v u) round ≡ Some (put_in round p).1
  numbered_put p e =
      let l = place_within p e in
      lookup_first round v p l (sym (vertex_at p l) ∙ h.forth v p inside e) (λ q m same.
      let k : q < length round = omega arith in
      let other : suc q
      ≡ suc p = sym (h.back q (omega (arith, length-map round (λ (put : ℕ × Entry). put.0))))
      ∙ ap number (vertex_at q k ∙ same) ∙ e in
      absurd (omega arith))

  -- one without has none
  pub unnumbered_put : number v ≡ 0 → lookup (λ u. eqb v u) round ≡ None
  unnumbered_put e = elim (cases_Bool (list_any (λ u. eqb v u) (vertices_in round))) [
    | inl some ↦ let at = any_place (vertices_in round) v some in
        let f : 0 ≡ suc at.0 = sym e ∙ ap number (sym at.2) ∙ h.back at.0 at.1 in
        absurd (omega arith)
    | inr none ↦ lookup_none round v none
  ]

  pub unput_number : lookup (λ u. eqb v u) round ≡ None → number v ≡ 0
  unput_number none = by_number (number v) refl
    where
      by_number : (k : ℕ) → number v ≡ k → number v ≡ 0
      by_number zero e = e
      by_number (suc p) e = absurd (none-some (put_in round p).1 (sym none ∙ numbered_put p e))
