-- The places of slots and flat numbers.
use Rattle.std.proofs.Common.{◌≡◌, ℕ, zero, suc, ◌+◌, ◌*◌, ◌<◌, ◌≤◌, true, false, eqb, [], length}
use Rattle.std.proofs.Common.{get_or, set, map, drop, replicate, refl, sym, ap, ◌∙◌, arith}
use Rattle.std.specs.List.{All, IsDistinct, list_any}
use Rattle.std.proofs.lemmas.List.{length-map, length-take, length-drop, length-replicate}
use Rattle.bolt_base.proofs.ListLemmas.{get_or-replicate_same}
use Rattle.agg_history.specs.Places.{PlaceTable, line_of, place_at}
use Rattle.agg_history.specs.PlacesOf.{places_of, ArePlaces}
use Rattle.agg_history.specs.declared.places.Places.TheInside.{Inside}
use Rattle.agg_history.proofs.NumberLemmas.{any_at, all_inside, order_distinct, order_few}
use Rattle.agg_history.proofs.NumberLemmas.{not_in_order, in_order_numbered}
use Rattle.agg_history.proofs.PlaceLemmas.{line_at, line_end, inside, place_is, set_is}

module _ (p : Inside) (t : PlaceTable) (is : places_of p ≡ t) (ok : ArePlaces p) where
  pub width_is : p.width ≡ t.width
  width_is = ap (λ (x : PlaceTable). x.width) is

  pub touched_is : p.touched.items ≡ t.touched
  touched_is = ap (λ (x : PlaceTable). x.touched) is

  pub table_is : map (line_of p.width p.places.items) p.slots.items ≡ t.table
  table_is = ap (λ (x : PlaceTable). x.table) is

  pub count_is : length p.slots.items ≡ length t.table
  count_is = sym (length-map p.slots.items (line_of p.width p.places.items)) ∙ ap length table_is

  abbrev slot : ℕ → ℕ
  slot v = get_or p.slots.items v 0

  module _ (v i : ℕ) (h : v < length t.table) (l : i < t.width) where
    vertex_below : v < length p.slots.items
    vertex_below = omega (arith, count_is)

    iteration_below : i < p.width
    iteration_below = omega (arith, width_is)

    -- a slot that isn't 0 has its places
    pub place_inside : (s : ℕ) → get_or p.slots.items v 0 ≡ suc s
        → s * p.width + i < length p.places.items
    place_inside s e =
        inside p.width p.slots.items p.touched.items p.places.items ok.long ok.numbered v i s
        vertex_below
        iteration_below e

    pub place_there : (s : ℕ) → get_or p.slots.items v 0 ≡ suc s
        → get_or p.places.items (s * p.width + i) 0 ≡ place_at t.table v i
    place_there s e =
        place_is p.width p.slots.items p.touched.items p.places.items ok.long ok.numbered v i s
        vertex_below iteration_below e ∙ ap (λ table. place_at table v i) table_is

    pub no_place : get_or p.slots.items v 0 ≡ 0 → place_at t.table v i ≡ 0
    no_place e = ap (λ table. place_at table v i) (sym table_is)
        ∙ ap (λ line. get_or line i 0)
        (line_at p.width p.slots.items p.touched.items p.places.items ok.long ok.numbered v
        vertex_below
        ∙ ap (line_of p.width p.places.items) e) ∙ get_or-replicate_same p.width i 0

    pub place_put : (s x : ℕ) → get_or p.slots.items v 0 ≡ suc s
        → map (line_of p.width (set p.places.items (s * p.width + i) x)) p.slots.items
        ≡ set t.table v (set (get_or t.table v []) i x)
    place_put s x e =
        set_is p.width p.slots.items p.touched.items p.places.items ok.long ok.numbered v i s
        vertex_below
        iteration_below e x ∙ ap (λ table. set table v (set (get_or table v []) i x)) table_is

  pub touched_inside : All (λ v. v < length t.table) t.touched
  touched_inside = rw (← touched_is, ← count_is)
      (all_inside slot (length p.slots.items) p.touched.items ok.numbered)

  pub touched_distinct : IsDistinct eqb t.touched
  touched_distinct = rw (← touched_is)
      (order_distinct slot (length p.slots.items) p.touched.items ok.numbered)

  pub touched_few : length t.touched ≤ length t.table
  touched_few = omega (
    arith,
    order_few slot (length p.slots.items) p.touched.items ok.numbered,
    ap length touched_is,
    count_is,
  )

  pub others_blank : (v : ℕ) → v < length t.table → list_any (λ u. eqb v u) t.touched ≡ false
      → get_or t.table v [] ≡ replicate t.width 0
  others_blank v h blank =
      let l : v < length p.slots.items = omega (arith, count_is) in
      let slot_0 : get_or p.slots.items v 0
      ≡ 0 = not_in_order slot (length p.slots.items) p.touched.items ok.numbered v l
      (ap (list_any (λ u. eqb v u)) touched_is ∙ blank) in
      ap (λ table. get_or table v []) (sym table_is)
      ∙ line_at p.width p.slots.items p.touched.items p.places.items ok.long ok.numbered v l
      ∙ ap (line_of p.width p.places.items) slot_0 ∙ ap (λ n. replicate n 0) width_is

  pub slot_of : (v : ℕ) → v < length t.table → list_any (λ u. eqb v u) t.touched ≡ true → (s : ℕ)
      × (get_or p.slots.items v 0 ≡ suc s) × (s < length p.touched.items)
  slot_of v h some = in_order_numbered slot (length p.slots.items) p.touched.items ok.numbered v
      (omega (arith, count_is)) (ap (list_any (λ u. eqb v u)) touched_is ∙ some)

  pub touched_from_slot : (v s : ℕ) → v < length t.table → get_or p.slots.items v 0 ≡ suc s
      → list_any (λ u. eqb v u) t.touched ≡ true
  touched_from_slot v s h e =
      let l : v < length p.slots.items = omega (arith, count_is) in
      ap (list_any (λ u. eqb v u)) (sym touched_is)
      ∙ any_at p.touched.items v s (ok.numbered.within v s l e) (ok.numbered.forth v s l e)

  -- a line is as wide as the table
  pub line_width : (v : ℕ) → v < length t.table → length (get_or t.table v []) ≡ t.width
  line_width v h =
      let l : v < length p.slots.items = omega (arith, count_is) in
      ap (λ table. length (get_or table v [])) (sym table_is)
      ∙ ap length (line_at p.width p.slots.items p.touched.items p.places.items ok.long
      ok.numbered v l)
      ∙ by_slot l (get_or p.slots.items v 0) refl ∙ width_is
    where
      by_slot : v < length p.slots.items → (s : ℕ) → get_or p.slots.items v 0 ≡ s
          → length (line_of p.width p.places.items (get_or p.slots.items v 0)) ≡ p.width
      by_slot l zero e = ap (λ s. length (line_of p.width p.places.items s)) e
          ∙ length-replicate p.width 0
      by_slot l (suc s) e =
          let end = line_end p.width (length p.touched.items) s (ok.numbered.within v s l e) in
          let long = ok.long in
          ap (λ s. length (line_of p.width p.places.items s)) e
          ∙ omega (
            arith,
            length-take p.width (drop (s * p.width) p.places.items),
            length-drop (s * p.width) p.places.items,
          )
