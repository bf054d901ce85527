-- Places that take changes in.
use Rattle.std.proofs.Common.{◌≡◌, ℕ, ◌+◌, ◌*◌, ◌<◌, ◌≤◌, ◌==◌, true, false, cond, Bool, ℤ, pos}
use Rattle.std.proofs.Common.{List, [], ◌∷◌, ◌++◌, length, set, map, refl, sym, ap, ◌∙◌}
use Rattle.std.proofs.Common.{arith, length-append, ◌&&◌, suc, mul-le-mul_right}
use Rattle.std.specs.Prelude.{nat_le, replicate}
use Rattle.std.proofs.lemmas.Bool.{eq-eqb, ne_eqb}
use Rattle.std.proofs.lemmas.Bool.Decides.{nat_tests}
use Rattle.std.proofs.lemmas.List.{length-set, length-map, length-replicate, map-append, map-set}
use Rattle.std.proofs.lemmas.List.{set_past}
use Rattle.bolt_base.specs.declared.answer.AnswerChange.{AnswerChange}
use Rattle.run_model.specs.Logs.{with_change, with_changes, with_value}
use Rattle.run_model.specs.Rows.{Lists}
use Rattle.run_model.proofs.Still.{is_le}
use Rattle.board.specs.Halls.{ArePlaces, fitted, values_in, with_change_in, with_changes_in}
use Rattle.board.proofs.Flat.{AreWide, length-values_in, overwritten, value_appended}
use Rattle.board.proofs.Flat.{value_overwritten}

-- ---- values as the places hold them
pub fitted_is_wide : (w : ℕ) (xs : List ℤ) → length (fitted w xs) ≡ w
fitted_is_wide w xs =
    elim (length xs == w) as (λ b. (length xs == w) ≡ b
    → length (cond b xs (replicate w (pos 0))) ≡ w) [
      | true ↦ λ same. let e : length xs ≡ w = grind (arith, nat_tests) in e
      | false ↦ λ _. length-replicate w (pos 0)
    ] refl

fitted_is_same : (w : ℕ) (xs : List ℤ) → length xs ≡ w → fitted w xs ≡ xs
fitted_is_same w xs wide =
    ap (λ (b : Bool). cond b xs (replicate w (pos 0))) (eq-eqb (length xs) w wide)

wide_values_fit : (w : ℕ) (values : Lists) → AreWide w values → map (fitted w) values ≡ values
wide_values_fit w [] wide = refl
wide_values_fit w (x ∷ xs) wide =
    let one = fitted_is_same w x (wide 0 [] (omega arith)) in
    let more = wide_values_fit w xs (λ k d h. wide (suc k) d (omega arith)) in
    λ i. one i ∷ more i

-- ---- with room for all changes none is left out
change_loses_none : (values : Lists) (c : AnswerChange)
    → length values ≤ length (with_change values c)
change_loses_none values c =
    elim (c.vertex == length values) as (λ b. length values
    ≤ length (cond b (values ++ c.value ∷ []) (set values c.vertex c.value))) [
      | true ↦ let l = length-append values (c.value ∷ []) in omega arith
      | false ↦ let l = length-set values c.vertex c.value in omega arith
    ]

changes_lose_none : (changes : List AnswerChange) (values : Lists)
    → length values ≤ length (with_changes values changes)
changes_lose_none [] values = omega arith
changes_lose_none (c ∷ cs) values =
    let a = change_loses_none values c in
    let b = changes_lose_none cs (with_change values c) in omega (arith, a, b)

module _ (w room : ℕ) where
  -- a change of the values as they are held
  change_is_held : (values : Lists) (c : AnswerChange) → length (with_change values c) ≤ room
      → with_change_in w room (map (fitted w) values) c ≡ map (fitted w) (with_change values c)
  change_is_held values c few =
      ap (λ (n : ℕ). cond ((c.vertex == n) && nat_le room n) (map (fitted w) values)
      (cond (c.vertex == n) (map (fitted w) values ++ fitted w c.value ∷ [])
      (set (map (fitted w) values) c.vertex (fitted w c.value)))) (length-map values (fitted w))
      ∙ elim (c.vertex == length values) as (λ b.
      length (cond b (values ++ c.value ∷ []) (set values c.vertex c.value)) ≤ room
      → cond (b && nat_le room (length values)) (map (fitted w) values)
      (cond b (map (fitted w) values ++ fitted w c.value ∷ [])
      (set (map (fitted w) values) c.vertex (fitted w c.value)))
      ≡ map (fitted w) (cond b (values ++ c.value ∷ []) (set values c.vertex c.value))) [
        | true ↦ λ h.
            elim (nat_le room (length values)) as (λ t. nat_le room (length values) ≡ t
            → cond t (map (fitted w) values) (map (fitted w) values ++ fitted w c.value ∷ [])
            ≡ map (fitted w) (values ++ c.value ∷ [])) [
              | true ↦ λ full. absurd
                  (let le : room ≤ length values = grind (arith, nat_tests) in
                  let l = length-append values (c.value ∷ []) in omega (arith, h, le, l))
              | false ↦ λ _. sym (map-append (fitted w) values (c.value ∷ []))
            ] refl
        | false ↦ λ h. sym (map-set (fitted w) values c.vertex c.value)
      ] few

  changes_are_held : (changes : List AnswerChange) (values : Lists)
      → length (with_changes values changes) ≤ room
      → with_changes_in w room (map (fitted w) values) changes
      ≡ map (fitted w) (with_changes values changes)
  changes_are_held [] values few = refl
  changes_are_held (c ∷ cs) values few =
      let most = changes_lose_none cs (with_change values c) in
      let here = change_is_held values c (omega (arith, few, most)) in
      ap (λ xs. with_changes_in w room xs cs) here
      ∙ changes_are_held cs (with_change values c) few

  -- changes that lead from values of the places' width to such values
  pub changes_find_room : (changes : List AnswerChange) (values : Lists) → AreWide w values
      → AreWide w (with_changes values changes) → length (with_changes values changes) ≤ room
      → with_changes_in w room values changes ≡ with_changes values changes
  changes_find_room changes values before after few =
      ap (λ xs. with_changes_in w room xs changes) (sym (wide_values_fit w values before))
      ∙ changes_are_held changes values few
      ∙ wide_values_fit w (with_changes values changes) after

-- the places in use are those of so many numbers
pub used_words : (w room used : ℕ) (words : List ℤ) → ArePlaces w room used words
    → used * w ≤ length words
used_words w room used words places =
    let most = mul-le-mul_right {m = used} {n = room} w places.fits in
    let long = places.long in
    omega (arith, long, most)

-- ---- one change of values, for which there may be a place
module _ (w room : ℕ) (values : Lists) (v : ℕ) (x : List ℤ) where
  abbrev new : AnswerChange
  new = record { vertex = v; value = x }

  pub no_place_past : length values < v → values ≡ with_change_in w room values new
  no_place_past past =
      let apart : (v == length values) ≡ false = ne_eqb v _ (λ e. omega (arith, e, past)) in
      sym (set_past values v (fitted w x) (omega (arith, past)))
      ∙ ap (λ b. cond (b && nat_le room (length values)) values
      (cond b (values ++ fitted w x ∷ []) (set values v (fitted w x)))) (sym apart)

  pub no_place_left : v ≤ length values → length values ≤ room → room ≤ v
      → values ≡ with_change_in w room values new
  no_place_left low fits full =
      let last : (v == length values) ≡ true = eq-eqb v _ (omega arith) in
      ap (λ t. cond t values (values ++ fitted w x ∷ []))
      (sym (is_le room (length values) (omega arith)))
      ∙ ap (λ b. cond (b && nat_le room (length values)) values
      (cond b (values ++ fitted w x ∷ []) (set values v (fitted w x)))) (sym last)

  pub place_is_found : v ≤ length values → v < room
      → with_value values v (fitted w x) ≡ with_change_in w room values new
  place_is_found low below =
      elim (v == length values) as (λ b. (v == length values) ≡ b
      → cond b (values ++ fitted w x ∷ []) (set values v (fitted w x))
      ≡ cond (b && nat_le room (length values)) values
      (cond b (values ++ fitted w x ∷ []) (set values v (fitted w x)))) [
        | true ↦ λ e.
            let at : v ≡ length values = grind (arith, nat_tests) in
            elim (nat_le room (length values)) as (λ t. nat_le room (length values) ≡ t
            → values ++ fitted w x ∷ []
            ≡ cond t values (values ++ fitted w x ∷ [])) [
              | true ↦ λ full. absurd
                  (let le : room ≤ length values = grind (arith, nat_tests) in
                  omega (arith, le, at, below))
              | false ↦ λ _. refl
            ] refl
        | false ↦ λ e. refl
      ] refl

-- ---- a value written over a place in use, or over the next one
module _ (w room used : ℕ) (words : List ℤ) (places : ArePlaces w room used words) (v : ℕ)
    (x : List ℤ) (wide : length x ≡ w) where
  abbrev held : Lists
  held = values_in w used words

  pub written_in_use : v < used
      → values_in w used (overwritten (v * w) x words) ≡ with_value held v x
  written_in_use low =
      let l = length-values_in w used words in
      let apart : (v == length held) ≡ false = ne_eqb v _ (λ e. omega (arith, e, l, low)) in
      value_overwritten w used (v * w) words v x refl low (used_words w room used words places) wide
      ∙ ap (λ b. cond b (held ++ x ∷ []) (set held v x)) (sym apart)

  pub written_next : v ≡ used → v < room
      → values_in w (used + 1) (overwritten (v * w) x words) ≡ with_value held v x
  written_next e low =
      let l = length-values_in w used words in
      let last : (v == length held) ≡ true = eq-eqb v _ (e ∙ sym l) in
      let most = mul-le-mul_right {m = used + 1} {n = room} w (omega arith) in
      let long = places.long in
      value_appended w used (v * w) words x (ap (λ (n : ℕ). n * w) e) (omega (arith, long, most))
      wide
      ∙ ap (λ b. cond b (held ++ x ∷ []) (set held v x)) (sym last)
