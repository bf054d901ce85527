-- Rows and rows with places, by their maps.
use Rattle.std.proofs.Common.{◌≡◌, ℕ, ◌+◌, ◌<◌, ◌≤◌, List, [], ◌∷◌, ◌++◌, map, length, get_or}
use Rattle.std.proofs.Common.{set, reverse, refl, sym, ap, ◌∙◌, subst, arith}
use Rattle.std.proofs.Common.{append_assoc}
use Rattle.std.specs.FinMap as finite
use Rattle.std.proofs.lemmas.List.{map-set, map-append, length-map, get_or-map, get_or_past}
use Rattle.std.proofs.lemmas.List.{reverse-append}
use Rattle.std.proofs.lemmas.List.Elements.{All-map}
use Rattle.swaps.specs.Swaps.{put_all, undo, AreInside}
use Rattle.adjacency.specs.Row.{RowMap}
use Rattle.adjacency.specs.Rows.{row_at, full_of, placed}
use Rattle.adjacency.proofs.DraftLemmas.{full_push}
use Rattle.adjacency.proofs.PlainLemmas.{row_there}

module _ {X : Type 0} (f : X → RowMap) where
  abbrev with_map : ℕ × X → ℕ × RowMap
  with_map item = (item.0, f item.1)

  pub map-put_all : (items : List (ℕ × X)) (xs : List X) → map f (put_all items xs)
      ≡ put_all (placed f items) (map f xs)
  map-put_all [] xs = refl
  map-put_all (i ∷ items) xs = map-put_all items (set xs i.0 i.1)
      ∙ ap (put_all (placed f items)) (map-set f xs i.0 i.1)

  pub map-undo : (items : List (ℕ × X)) (xs : List X) → map f (undo items xs)
      ≡ undo (placed f items) (map f xs)
  map-undo [] xs = refl
  map-undo (i ∷ items) xs = map-set f (undo items xs) i.0 i.1
      ∙ ap (λ ys. set ys i.0 (f i.1)) (map-undo items xs)

  pub inside_placed : (n : ℕ) (items : List (ℕ × X)) → AreInside n items
      → AreInside n (placed f items)
  inside_placed n items h = All-map (λ (a : ℕ × RowMap). a.0 < n) with_map items h

  pub inside_bare : (n : ℕ) (items : List (ℕ × X)) → AreInside n (placed f items)
      → AreInside n items
  inside_bare n items h = λ k d l. subst (λ (a : ℕ × RowMap). a.0 < n)
      (get_or-map with_map items k d (with_map d) l)
      (h k (with_map d) (omega (arith, length-map items with_map)))

  pub row_mapped : (xs : List X) (u : ℕ) (x : X) → u < length xs → x ≡ get_or xs u x
      → row_at (map f xs) u ≡ f x
  row_mapped xs u x l is = get_or-map f xs u x finite.empty l ∙ ap f (sym is)

  -- the row that is read at a vertex which has a k-th arc
  pub row_mapped_at : (xs : List X) (rows : List RowMap) → map f xs ≡ rows → (u k : ℕ)
      → k < finite.len (row_at rows u) → (x : X) → x ≡ get_or xs u x → row_at rows u ≡ f x
  row_mapped_at xs rows is u k some x read =
      let there = row_there rows u k some in
      let long = length-map xs f in
      ap (λ rs. row_at rs u) (sym is)
      ∙ row_mapped xs u x (omega (arith, there, long, ap length is)) read

  pub row_past : (xs : List X) (u : ℕ) → length xs ≤ u → row_at (map f xs) u ≡ finite.empty
  row_past xs u l = get_or_past (map f xs) u finite.empty (omega (arith, length-map xs f))

  -- one empty row more
  pub grown_more : (xs : List X) (x : X) (base : List RowMap) (n : ℕ) → map f xs ≡ full_of base n
      → f x ≡ finite.empty → map f (xs ++ x ∷ []) ≡ full_of base (n + 1)
  grown_more xs x base n h none = map-append f xs (x ∷ []) ∙ ap (λ ys. ys ++ f x ∷ []) h
      ∙ ap (λ r. full_of base n ++ r ∷ []) none ∙ sym (full_push base n)

  -- one row more of the reversed list
  pub moved_more : (done : List X) (x : X) (left all : List RowMap) (r : RowMap) → f x ≡ r
      → map f done ++ reverse (left ++ r ∷ []) ≡ all → map f (done ++ x ∷ []) ++ reverse left ≡ all
  moved_more done x left all r is h =
      ap (λ ys. ys ++ reverse left) (map-append f done (x ∷ []) ∙ ap (λ s. map f done ++ s ∷ []) is)
      ∙ append_assoc (map f done) (r ∷ []) (reverse left)
      ∙ ap (λ ys. map f done ++ ys) (sym (reverse-append left (r ∷ []))) ∙ h
