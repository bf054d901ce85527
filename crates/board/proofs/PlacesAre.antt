-- Places as flat numbers, and what a call reads of them and makes of them.
use Rattle.std.proofs.Common.{◌≡◌, ℕ, ℤ, pos, ◌+◌, ◌*◌, ◌<◌, ◌≤◌, List, [], ◌++◌, length, get_or}
use Rattle.std.proofs.Common.{take, drop, sym, ap, ◌∙◌, arith, length-append, length-take}
use Rattle.std.proofs.Common.{length-drop}
use Rattle.std.proofs.Common.{suc, mul-le-mul_right, subst}
use Rattle.bolt_base.proofs.ListLemmas.{suc_times}
use Rattle.std.specs.List.{flat_map}
use Rattle.std.proofs.lemmas.List.{take_all}
use Rattle.bolt_base.proofs.RowLemmas.{length_of_numbers, place_inside}
use Rattle.run_model.specs.Program.{number}
use Rattle.run_model.specs.Rows.{Lists}
use Rattle.board.specs.Halls.{Hall, ArePlaces, values_in}
use Rattle.board.specs.declared.places.Places.TheInside.{Inside}
use Rattle.board.proofs.Flat.{AreWide, length-values_in, number_in, overwritten}
use Rattle.board.proofs.Flat.{values_laid, wide_in}
use Rattle.board.proofs.Roomy.{used_words}

abbrev pub view_of : Inside → Hall
view_of r =
    record { values = values_in r.width r.used r.words.items; room = r.room; width = r.width }

module _ (r : Inside) (t : Hall) (is : view_of r ≡ t)
    (ok : ArePlaces r.width r.room r.used r.words.items) where
  pub width_is : r.width ≡ t.width
  width_is = ap (λ (h : Hall). h.width) is

  pub room_is : r.room ≡ t.room
  room_is = ap (λ (h : Hall). h.room) is

  pub values_are : values_in r.width r.used r.words.items ≡ t.values
  values_are = ap (λ (h : Hall). h.values) is

  pub count_is : r.used ≡ length t.values
  count_is =
      sym (length-values_in r.width r.used r.words.items) ∙ ap (λ (l : Lists). length l) values_are

  pub values_are_wide : AreWide r.width t.values
  values_are_wide =
      subst (AreWide r.width) values_are
      (wide_in r.width r.used r.words.items (used_words r.width r.room r.used r.words.items ok))

  module _ (v : ℕ) (below : v < length t.values) where
    in_use : v < r.used
    in_use = omega (arith, count_is, below)

    module _ (k : ℕ) (lane : k < t.width) where
      in_width : k < r.width
      in_width = omega (arith, width_is, lane)

      pub number_inside : v * r.width + k < length r.words.items
      number_inside =
          let below_room : v < r.room = (let f = ok.fits in omega (arith, in_use, f)) in
          let long = ok.long in
          omega (arith, place_inside r.width r.room v k below_room in_width, long)

      pub number_is : get_or r.words.items (v * r.width + k) (pos 0)
          ≡ number (get_or t.values v []) k
      number_is =
          sym (number_in r.width r.used r.words.items v k in_use in_width)
          ∙ ap (λ (l : Lists). number (get_or l v []) k) values_are

-- a value is written over those of a place
module _ (w room used : ℕ) (words : List ℤ) (places : ArePlaces w room used words) (v : ℕ)
    (x : List ℤ) (there : v < room) (wide : length x ≡ w) where
  pub value_ends_inside : v * w + length x ≤ length words
  value_ends_inside =
      let most = mul-le-mul_right {m = suc v} {n = room} w (omega arith) in
      let long = places.long in
      omega (arith, most, long, wide, suc_times v w)

  pub overwritten_is_long : length (overwritten (v * w) x words) ≡ length words
  overwritten_is_long =
      omega (
        arith,
        value_ends_inside,
        length-append (take (v * w) words) (x ++ drop (v * w + length x) words),
        length-append x (drop (v * w + length x) words),
        length-take (v * w) words,
        length-drop (v * w + length x) words,
      )

-- ---- new places
module _ (w room n : ℕ) (start : Lists) (words all more : List ℤ) (wide : AreWide w start)
    (fits : length start ≤ room) (size : n ≡ room * w) (laid : words ≡ flat_map (λ xs. xs) start)
    (filled : all ≡ take n words ++ more) where
  pub start_is_laid : values_in w (length start) all ≡ start
  start_is_laid =
      let long : length words ≡ length start * w =
      ap (λ (l : List ℤ). length l) laid ∙ length_of_numbers w start wide in
      let most = mul-le-mul_right {m = length start} {n = room} w fits in
      ap (values_in w (length start))
      (filled ∙ ap (λ (l : List ℤ). l ++ more) (take_all n words (omega (arith, long, most, size))))
      ∙ ap (λ (l : List ℤ). values_in w (length start) (l ++ more)) laid
      ∙ values_laid w start more wide
