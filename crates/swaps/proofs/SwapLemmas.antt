-- What swaps and undone swaps leave.
use Rattle.std.proofs.Common.{◌≡◌, ◌≢◌, ℕ, ◌+◌, ◌<◌, ◌≤◌, List, [], ◌∷◌, ◌++◌, length, get_or, set}
use Rattle.std.proofs.Common.{take, drop, Bool, true, false, ◌||◌, eqb, ◌⊎◌, inl, inr, refl, sym}
use Rattle.std.proofs.Common.{ap, ◌∙◌, subst, arith}
use Rattle.std.proofs.lemmas.List.{length-set, set-set, set-get_or, map-set, get_or-map, take_more}
use Rattle.std.proofs.lemmas.List.{take_more_set, take_all, drop_more, drop-set-lt, get_or-set_same}
use Rattle.std.proofs.lemmas.List.{get_or-set_other}
use Rattle.std.proofs.lemmas.Bool.{cases_eq, ne_eqb}
use Rattle.std.specs.List.{All}
use Rattle.std.proofs.lemmas.List.Elements.{All-set, All-head, All-tail}
use Rattle.swaps.specs.Swaps.{put_all, undo, places, AreInside}

pub undo-append : {X : Type 0} (items : List (ℕ × X)) (item : ℕ × X) (xs : List X)
    → undo (items ++ item ∷ []) xs ≡ undo items (set xs item.0 item.1)
undo-append [] item xs = refl
undo-append (first ∷ items) item xs = ap (λ ys. set ys first.0 first.1) (undo-append items item xs)

pub put_all-append : {X : Type 0} (items : List (ℕ × X)) (item : ℕ × X) (xs : List X)
    → put_all (items ++ item ∷ []) xs ≡ set (put_all items xs) item.0 item.1
put_all-append [] item xs = refl
put_all-append (first ∷ items) item xs = put_all-append items item (set xs first.0 first.1)

pub length-undo : {X : Type 0} (items : List (ℕ × X)) (xs : List X)
    → length (undo items xs) ≡ length xs
length-undo [] xs = refl
length-undo (item ∷ items) xs = length-set (undo items xs) item.0 item.1 ∙ length-undo items xs

pub length-put_all : {X : Type 0} (items : List (ℕ × X)) (xs : List X)
    → length (put_all items xs) ≡ length xs
length-put_all [] xs = refl
length-put_all (item ∷ items) xs = length-put_all items (set xs item.0 item.1)
    ∙ length-set xs item.0 item.1

-- the list and the items after i swaps, and both as they began
pub record IsSwapped {X : Type 0} (i : ℕ) (xs : List X) (items : List (ℕ × X)) (xs0 : List X)
    (items0 : List (ℕ × X)) : Type 0 where
  pub put : xs ≡ put_all (take i items0) xs0
  pub back : undo (take i items) xs ≡ xs0
  pub rest : drop i items ≡ drop i items0
  pub count : length items ≡ length items0
  pub within : i ≤ length items0
  pub inside : AreInside (length xs) items
  pub size : length xs ≡ length xs0
  pub places : places items ≡ places items0

-- an item in another's stead at its place
places_set : {X : Type 0} (items : List (ℕ × X)) (i : ℕ) (new old : ℕ × X)
    → new ≡ get_or items i new → new.0 ≡ old.0
    → i < length items → places (set items i old) ≡ places items
places_set {X} items i new old is same inside =
    map-set (λ (item : ℕ × X). item.0) items i old
    ∙ ap (set (places items) i)
    (sym same ∙ ap (λ (item : ℕ × X). item.0) is
    ∙ sym (get_or-map (λ (item : ℕ × X). item.0) items i new 0 inside))
    ∙ set-get_or (places items) i 0

-- one swap more
pub swapped_more : {X : Type 0} (i : ℕ) (xs : List X) (items : List (ℕ × X)) (xs0 : List X)
    (items0 : List (ℕ × X)) (place : ℕ) (new old : X)
    → IsSwapped i xs items xs0 items0 → i < length items0
    → (place, new) ≡ get_or items i (place, new) → old ≡ get_or xs place old → place < length xs
    → IsSwapped (i + 1) (set xs place new) (set items i (place, old)) xs0 items0
swapped_more {X} i xs items xs0 items0 place new old s below read seen here =
    let count = s.count in
    let inner : i < length items = omega arith in
    let taken : take (i + 1) items0 ≡ take i items0 ++ (place, new) ∷ [] =
    take_more items0 i (place, new) below
    ∙ ap (λ item. take i items0 ++ item ∷ [])
    (first (place, new) (sym (drop_more items0 i (place, new) below) ∙ sym s.rest
    ∙ drop_more items i (place, new) inner) ∙ sym read) in
    record {
      put = ap (λ ys. set ys place new) s.put
          ∙ sym (put_all-append (take i items0) (place, new) xs0)
          ∙ ap (λ ts. put_all ts xs0) (sym taken);
      back = ap (λ ts. undo ts (set xs place new)) (take_more_set items i (place, old) inner)
          ∙ undo-append (take i items) (place, old) (set xs place new)
          ∙ ap (undo (take i items))
          (set-set xs place new old ∙ ap (set xs place) seen ∙ set-get_or xs place old)
          ∙ s.back;
      rest = drop-set-lt (i + 1) items i (place, old) (omega arith)
          ∙ second (sym (drop_more items i (place, new) inner) ∙ s.rest
          ∙ drop_more items0 i (place, new) below);
      count = length-set items i (place, old) ∙ s.count;
      within = omega arith;
      inside = subst (λ n. AreInside n (set items i (place, old))) (sym (length-set xs place new))
          (All-set (λ (item : ℕ × X). item.0 < length xs) items i (place, old) here s.inside);
      size = length-set xs place new ∙ s.size;
      places = places_set items i (place, new) (place, old) read refl inner ∙ s.places;
    }
  where
    first : {a b : ℕ × X} {as' bs : List (ℕ × X)} (d : ℕ × X) → a ∷ as' ≡ b ∷ bs → a ≡ b
    first d e = ap (λ xs. get_or xs 0 d) e

    second : {a b : ℕ × X} {as' bs : List (ℕ × X)} → a ∷ as' ≡ b ∷ bs → as' ≡ bs
    second e = ap (drop 1) e

pub swapped_all : {X : Type 0} (i : ℕ) (xs : List X) (items : List (ℕ × X)) (xs0 : List X)
    (items0 : List (ℕ × X))
    → IsSwapped i xs items xs0 items0 → length items0 ≤ i
    → (xs ≡ put_all items0 xs0) × (undo items xs ≡ xs0)
swapped_all i xs items xs0 items0 s past =
    let count = s.count in (
      s.put ∙ ap (λ ts. put_all ts xs0) (take_all i items0 past),
      ap (λ ts. undo ts xs)
          (sym (take_all i items (omega arith))) ∙ s.back,
    )

-- whether an item has the place
abbrev pub has_place : {X : Type 0} → ℕ → List (ℕ × X) → Bool
has_place k [] = false
has_place k (item ∷ items) = eqb item.0 k || has_place k items

-- where each item is what f gives at its place, a place that has it already, or that an item has,
-- has what f gives
pub put_all_at : {X : Type 0} (f : ℕ → X) (d : X) (items : List (ℕ × X))
    → All (λ item. item.1 ≡ f item.0) items → (xs : List X) (k : ℕ) → k < length xs
    → (get_or xs k d ≡ f k) ⊎ (has_place k items ≡ true) → get_or (put_all items xs) k d ≡ f k
put_all_at f d [] all xs k below (inl e) = e
put_all_at f d [] all xs k below (inr e) = cc
put_all_at {X} f d (item ∷ items) all xs k below h =
    let P : ℕ × X → Type 0 = λ x. x.1 ≡ f x.0 in
    let here : item.1 ≡ f item.0 = All-head P item items all in
    let wide : k < length (set xs item.0 item.1) = omega (arith, length-set xs item.0 item.1) in
    put_all_at f d items (All-tail P item items all) (set xs item.0 item.1) k wide
    (elim (cases_eq item.0 k) [
      | inl e ↦ inl (ap (λ j. get_or (set xs j item.1) k d) e ∙ get_or-set_same xs k item.1 d below
          ∙ here ∙ ap f e)
      | inr n ↦ later h n
    ])
  where
    later : (get_or xs k d ≡ f k) ⊎ (eqb item.0 k || has_place k items ≡ true) → item.0 ≢ k
        → (get_or (set xs item.0 item.1) k d ≡ f k) ⊎ (has_place k items ≡ true)
    later (inl e) n = inl (get_or-set_other xs item.0 k item.1 d (λ q. n (sym q)) ∙ e)
    later (inr e) n = inr (sym (ap (λ b. b || has_place k items) (ne_eqb item.0 k n)) ∙ e)
