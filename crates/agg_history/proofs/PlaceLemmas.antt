-- Lines of places as flat numbers.
use Rattle.std.proofs.Common.{◌≡◌, ◌≢◌, ℕ, zero, suc, ◌+◌, ◌-◌, ◌*◌, ◌<◌, ◌≤◌, List, [], ◌∷◌, ◌++◌}
use Rattle.std.proofs.Common.{length, get_or, set, take, drop, replicate, map, inl, inr, refl, sym}
use Rattle.std.proofs.Common.{ap, ◌∙◌, arith, suc-mul, mul-le-mul_right, length-append}
use Rattle.std.proofs.Math.Seq.{take-set-lt}
use Rattle.std.proofs.lemmas.Bool.{cases_eq, cases_lt}
use Rattle.std.proofs.lemmas.List.{ext_get_or, get_or-map, length-map, length-set, length-replicate}
use Rattle.std.proofs.lemmas.List.{get_or-set_same, get_or-set_other, get_or-take, get_or-drop}
use Rattle.std.proofs.lemmas.List.{take_all, take-append-le, drop-append-le, drop_at, take-set-le}
use Rattle.std.proofs.lemmas.List.{drop-set-lt, drop-set-add, length-drop}
use Rattle.agg_history.specs.Numbered.{AreNumbered}
use Rattle.agg_history.specs.Places.{line_of, place_at}
use Rattle.agg_history.proofs.NumberLemmas.{numbered_more, room_for_one}

-- a line ends where the next one begins
pub line_end : (w n t : ℕ) → t < n → t * w + w ≤ n * w
line_end w n t h = let room = mul-le-mul_right {m = suc t} {n = n} w h in omega (arith, suc-mul t w)

line_kept : (w n : ℕ) (places more : List ℕ) (t : ℕ) → length places ≡ n * w → t < n
    → line_of w (places ++ more) (suc t) ≡ line_of w places (suc t)
line_kept w n places more t long h =
    let end = line_end w n t h in
    ap (take w) (drop-append-le (t * w) places more (omega arith))
    ∙ take-append-le w (drop (t * w) places) more (omega (arith, length-drop (t * w) places))

line_new : (w n : ℕ) (places : List ℕ) → length places ≡ n * w
    → line_of w (places ++ replicate w 0) (suc n) ≡ replicate w 0
line_new w n places long = ap (take w) (drop_at places (replicate w 0) (n * w) long)
    ∙ take_all w (replicate w 0) (omega (arith, length-replicate {A = ℕ} w 0))

line_set_same : (w n : ℕ) (places : List ℕ) (t i x : ℕ) → length places ≡ n * w → t < n → i < w
    → line_of w (set places (t * w + i) x) (suc t) ≡ set (line_of w places (suc t)) i x
line_set_same w n places t i x long h l = ap (take w) (drop-set-add (t * w) places i x)
    ∙ take-set-lt w (drop (t * w) places) i x l

line_set_other : (w : ℕ) (places : List ℕ) (s t i x : ℕ) → s ≢ t → i < w
    → line_of w (set places (t * w + i) x) (suc s) ≡ line_of w places (suc s)
line_set_other w places s t i x other l = elim (cases_lt s t) [
  | inl m ↦
      let end = line_end w t s m in
      let k : ℕ = t * w + i - s * w in
      let at : t * w + i ≡ s * w + k = omega arith in
      ap (λ j. take w (drop (s * w) (set places j x))) at
      ∙ ap (take w) (drop-set-add (s * w) places k x)
      ∙ take-set-le w (drop (s * w) places) k x (omega arith)
  | inr m ↦ let end = line_end w s t (let f : t < s = omega arith in f) in
      ap (take w) (drop-set-lt (s * w) places (t * w + i) x (omega arith))
]

module _ (w : ℕ) (slots touched places : List ℕ) (long : length places ≡ length touched * w)
    (h : AreNumbered (λ v. get_or slots v 0) (length slots) touched) where
  table : List (List ℕ)
  table = map (line_of w places) slots

  pub line_at : (v : ℕ) → v < length slots
      → get_or (map (line_of w places) slots) v [] ≡ line_of w places (get_or slots v 0)
  line_at v l = get_or-map (line_of w places) slots v 0 [] l

  -- a place's number
  module _ (v i t : ℕ) (l : v < length slots) (m : i < w) (slot : get_or slots v 0 ≡ suc t) where
    pub inside : t * w + i < length places
    inside = let end = line_end w (length touched) t (h.within v t l slot) in omega arith

    pub place_is : get_or places (t * w + i) 0 ≡ place_at (map (line_of w places) slots) v i
    place_is = sym (get_or-drop (t * w) places i 0)
        ∙ sym (get_or-take w (drop (t * w) places) i 0 m)
        ∙ ap (λ s. get_or (line_of w places s) i 0) (sym slot)
        ∙ ap (λ line. get_or line i 0) (sym (line_at v l))

    -- a place put
    pub set_is : (x : ℕ)
        → map (line_of w (set places (t * w + i) x)) slots
        ≡ set (map (line_of w places) slots) v
        (set (get_or (map (line_of w places) slots) v []) i x)
    set_is x = ext_get_or [] _ _
        (length-map slots (line_of w (set places (t * w + i) x))
        ∙ sym (length-set (map (line_of w places) slots) v _
        ∙ length-map slots (line_of w places)))
        (λ u k. let below : u < length slots = omega
        (arith, length-map slots (line_of w (set places (t * w + i) x))) in
        get_or-map (line_of w (set places (t * w + i) x)) slots u 0 [] below ∙ elim (cases_eq u v) [
          | inl same ↦ ap (λ j. line_of w (set places (t * w + i) x) (get_or slots j 0)) same
              ∙ ap (line_of w (set places (t * w + i) x)) slot
              ∙ line_set_same w (length touched) places t i x long (h.within v t l slot) m
              ∙ ap (λ s. set (line_of w places s) i x) (sym slot)
              ∙ ap (λ line. set line i x) (sym (line_at v l))
              ∙ sym (get_or-set_same (map (line_of w places) slots) v
              (set (get_or (map (line_of w places) slots) v []) i x) []
              (omega (arith, length-map slots (line_of w places))))
              ∙ ap (λ j. get_or
              (set (map (line_of w places) slots) v
              (set (get_or (map (line_of w places) slots) v []) i x)) j []) (sym same)
          | inr other ↦ other_line x u below other (get_or slots u 0) refl ∙ sym (line_at u below)
              ∙ sym (get_or-set_other (map (line_of w places) slots) v u
              (set (get_or (map (line_of w places) slots) v []) i x) [] other)
        ])
      where
        other_line : (x u : ℕ) → u < length slots → u ≢ v → (s : ℕ) → get_or slots u 0 ≡ s
            → line_of w (set places (t * w + i) x) (get_or slots u 0)
            ≡ line_of w places (get_or slots u 0)
        other_line x u below other zero e = ap (line_of w (set places (t * w + i) x)) e
            ∙ sym (ap (line_of w places) e)
        other_line x u below other (suc s) e =
            ap (line_of w (set places (t * w + i) x)) e
            ∙ line_set_other w places s t i x
            (λ same. other (sym (h.forth u s below e) ∙ ap (λ p. get_or touched p 0) same
            ∙ h.forth v t l slot)) m
            ∙ sym (ap (line_of w places) e)

  -- a line more, for a vertex that has none
  module _ (v : ℕ) (l : v < length slots) (new : get_or slots v 0 ≡ 0) where
    pub longer : length (places ++ replicate w 0) ≡ length (touched ++ v ∷ []) * w
    longer =
        let e : length (touched ++ v ∷ [])
        ≡ suc (length touched) = omega (arith, length-append touched (v ∷ [])) in
        let f : length (touched ++ v ∷ []) * w ≡ suc (length touched) * w = ap (λ k. k * w) e in
        omega (
          arith,
          length-append places (replicate w 0),
          length-replicate {A = ℕ} w 0,
          suc-mul (length touched) w,
        )

    pub touched_more : AreNumbered (λ u. get_or (set slots v (suc (length touched))) u 0)
        (length (set slots v (suc (length touched)))) (touched ++ v ∷ [])
    touched_more = rw (length-set slots v (suc (length touched)))
        (numbered_more (λ u. get_or slots u 0) (length slots) touched h v l new
        (λ u. get_or (set slots v (suc (length touched))) u 0)
        (get_or-set_same slots v (suc (length touched)) 0 l)
        (λ u other. get_or-set_other slots v u (suc (length touched)) 0 other))

    pub touched_room : length touched + 1 ≤ length slots
    touched_room = room_for_one (λ u. get_or slots u 0) (length slots) touched h v l new

    pub same_table : map (line_of w (places ++ replicate w 0)) (set slots v (suc (length touched)))
        ≡ map (line_of w places) slots
    same_table = ext_get_or [] _ _
        (length-map (set slots v (suc (length touched))) (line_of w (places ++ replicate w 0))
        ∙ length-set slots v (suc (length touched)) ∙ sym (length-map slots (line_of w places)))
        (λ u k. let below : u < length slots = omega (
          arith,
          length-map (set slots v (suc (length touched)))
              (line_of w (places ++ replicate w 0)),
          length-set slots v (suc (length touched)),
        ) in
        get_or-map (line_of w (places ++ replicate w 0)) (set slots v (suc (length touched))) u 0 []
        (omega (arith, length-set slots v (suc (length touched))))
        ∙ elim (cases_eq u v) [
          | inl same ↦ ap (λ j.
              line_of w (places ++ replicate w 0) (get_or (set slots v (suc (length touched))) j 0))
              same
              ∙ ap (line_of w (places ++ replicate w 0))
              (get_or-set_same slots v (suc (length touched)) 0 l)
              ∙ line_new w (length touched) places long
              ∙ ap (line_of w places) (sym new)
              ∙ ap (λ j. line_of w places (get_or slots j 0)) (sym same)
          | inr other ↦ ap (line_of w (places ++ replicate w 0))
              (get_or-set_other slots v u (suc (length touched)) 0 other)
              ∙ other_line u below (get_or slots u 0) refl
        ] ∙ sym (line_at u below))
      where
        other_line : (u : ℕ) → u < length slots → (s : ℕ) → get_or slots u 0 ≡ s
            → line_of w (places ++ replicate w 0) (get_or slots u 0)
            ≡ line_of w places (get_or slots u 0)
        other_line u below zero e = ap (line_of w (places ++ replicate w 0)) e
            ∙ sym (ap (line_of w places) e)
        other_line u below (suc s) e = ap (line_of w (places ++ replicate w 0)) e
            ∙ line_kept w (length touched) places (replicate w 0) s long (h.within u s below e)
            ∙ sym (ap (line_of w places) e)
