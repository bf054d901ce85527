-- What an index tells of the arcs of its pages.
use Rattle.std.proofs.Common.{◌≡◌, cond, true, false, inl, inr, ℕ, ℤ, pos, zero, suc, ◌+◌, ◌-◌, ◌<◌}
use Rattle.std.proofs.Common.{◌≤◌, T, List, [], ◌∷◌, ◌++◌, length, get_or, take, drop, map, Option}
use Rattle.std.proofs.Common.{Some, None, refl, sym, ap, ◌∙◌, subst, arith, slice_get, append_assoc}
use Rattle.std.proofs.Common.{length-append}
use Rattle.std.specs.Ordering.{nat_cmp, eq_by_cmp}
use Rattle.std.proofs.lemmas.Bool.{cases_lt}
use Rattle.std.specs.List.{All}
use Rattle.std.specs.FinMap as finite
use Rattle.std.specs.FinMap.Entries.{find}
use Rattle.std.proofs.lemmas.List.{get_or_append_left, get_or-append-add, append-nil}
use Rattle.std.specs.FinMap.{is_sorted}
use Rattle.std.proofs.lemmas.List.Elements.{All-from_get_or}
use Rattle.adj_pages.proofs.SortedLemmas.{sorted_prefix}
use Rattle.adjacency.specs.Row.{RowMap, row_map, IsRow, end_at}
use Rattle.adjacency.proofs.RowLemmas.{entries_row, get_row, len_row, map_nil, ends_rise}
use Rattle.adjacency.proofs.RowLemmas.{find_nowhere}
use Rattle.adj_pages.specs.Index.{Mark, mark_at, marked, joined, IsPlaced, ArePlaced, IsIndex}
use Rattle.adj_pages.specs.Index.{IsPlaceOf, IsPlaceFor}

abbrev none : ℕ × ℤ
none = (0, pos 0)

pub marked_append : (xs ys : List Mark) → marked (xs ++ ys) ≡ marked xs ++ marked ys
marked_append [] ys = refl
marked_append (x ∷ xs) ys = ap (λ zs. finite.entries x.arcs ++ zs) (marked_append xs ys)
    ∙ sym (append_assoc (finite.entries x.arcs) (marked xs) (marked ys))

pub placed_push : (n t : ℕ) (ms : List Mark) (m : Mark) → ArePlaced n ms → t
    ≡ n + length (marked ms) → IsPlaced t m → ArePlaced n (ms ++ m ∷ [])
placed_push n t [] m h e p = (
  subst (λ k. IsPlaced k m) (let f : t ≡ n = omega (arith, e) in f) p,
  tt,
)
placed_push n t (x ∷ xs) m h e p = (
  h.0,
  placed_push (n + finite.len x.arcs) t xs m h.1
      (omega (
        arith,
        e,
        finite.len-entries x.arcs,
        length-append (finite.entries x.arcs)
            (marked xs),
      )) p,
)

-- ---- the arcs before a page, on it and after it
pub placed_at : (n : ℕ) (ms : List Mark) (i : ℕ) → ArePlaced n ms → i < length ms
    → IsPlaced (n + length (marked (take i ms))) (mark_at ms i)
placed_at n [] i h l = absurd (omega arith)
placed_at n (x ∷ xs) zero h l = subst (λ k. IsPlaced k x) (let f : n ≡ n + 0 = omega arith in f) h.0
placed_at n (x ∷ xs) (suc i) h l =
    subst (λ k. IsPlaced k (mark_at xs i))
    (let f : (n + finite.len x.arcs) + length (marked (take i xs))
    ≡ n + length (finite.entries x.arcs ++ marked (take i xs)) = omega (
      arith,
      finite.len-entries x.arcs,
      length-append (finite.entries x.arcs)
          (marked (take i xs)),
    ) in f)
    (placed_at (n + finite.len x.arcs) xs i h.1 (omega arith))

pub marked_split : (ms : List Mark) (i : ℕ) → i < length ms → marked ms ≡ marked (take i ms)
    ++ (finite.entries (mark_at ms i).arcs ++ marked (drop (suc i) ms))
marked_split [] i l = absurd (omega arith)
marked_split (x ∷ xs) zero l = refl
marked_split (x ∷ xs) (suc i) l =
    ap (λ zs. finite.entries x.arcs ++ zs) (marked_split xs i (omega arith))
    ∙ sym (append_assoc (finite.entries x.arcs) (marked (take i xs))
    (finite.entries (mark_at xs i).arcs ++ marked (drop (suc i) xs)))

-- the next page begins where this one ends
pub marked_next : (ms : List Mark) (i : ℕ) → i < length ms → marked (take (suc i) ms)
    ≡ marked (take i ms) ++ finite.entries (mark_at ms i).arcs
marked_next [] i l = absurd (omega arith)
marked_next (x ∷ xs) zero l = append-nil (finite.entries x.arcs)
marked_next (x ∷ xs) (suc i) l =
    ap (λ zs. finite.entries x.arcs ++ zs) (marked_next xs i (omega arith))
    ∙ sym (append_assoc (finite.entries x.arcs) (marked (take i xs))
    (finite.entries (mark_at xs i).arcs))

get_left : (xs ys : List (ℕ × ℤ)) (k : ℕ) → k < length xs → slice_get (xs ++ ys) k ≡ slice_get xs k
get_left [] ys k l = absurd (omega arith)
get_left (x ∷ xs) ys zero l = refl
get_left (x ∷ xs) ys (suc k) l = get_left xs ys k (omega arith)

get_right : (xs ys : List (ℕ × ℤ)) (k : ℕ) → slice_get (xs ++ ys) (length xs + k) ≡ slice_get ys k
get_right [] ys k = ap (slice_get ys) (let e : 0 + k ≡ k = omega arith in e)
get_right (x ∷ xs) ys k = ap (slice_get (x ∷ xs ++ ys))
    (let e : suc (length xs) + k ≡ suc (length xs + k) = omega arith in e) ∙ get_right xs ys k

no_more : (ms : List Mark) (i : ℕ) → length ms ≤ i → drop i ms ≡ []
no_more [] zero l = refl
no_more [] (suc i) l = refl
no_more (x ∷ xs) zero l = absurd (omega arith)
no_more (x ∷ xs) (suc i) l = no_more xs i (omega arith)

find_left : (q : ℕ) (xs ys : List (ℕ × ℤ)) → find nat_cmp q ys ≡ None → find nat_cmp q (xs ++ ys)
    ≡ find nat_cmp q xs
find_left q [] ys h = h
find_left q (x ∷ xs) ys h = ap (λ o. cond (eq_by_cmp nat_cmp q x.0) (Some x.1) o)
    (find_left q xs ys h)

find_right : (q : ℕ) (xs ys : List (ℕ × ℤ)) → find nat_cmp q xs ≡ None → find nat_cmp q (xs ++ ys)
    ≡ find nat_cmp q ys
find_right q [] ys h = refl
find_right q (x ∷ xs) ys h = elim (eq_by_cmp nat_cmp q x.0) as
    (λ b. cond b (Some x.1) (find nat_cmp q xs) ≡ None
    → cond b (Some x.1) (find nat_cmp q (xs ++ ys)) ≡ find nat_cmp q ys)
    [ true ↦ λ e. absurd (cc) | false ↦ λ e. find_right q xs ys e ] h

module _ (ms : List Mark) (n : ℕ) (index : IsIndex ms n) where
  pub at_place : (i : ℕ) → i < length ms → IsPlaced (length (marked (take i ms))) (mark_at ms i)
  at_place i l = subst (λ k. IsPlaced k (mark_at ms i))
      (let f : 0 + length (marked (take i ms)) ≡ length (marked (take i ms)) = omega arith in f)
      (placed_at 0 ms i index.placed l)

  pub begins : 0 < length ms → (mark_at ms 0).before ≡ 0
  begins l = (at_place 0 l).before

  pub some_page : 0 < n → 0 < length ms
  some_page h = some ms (omega (arith, index.count))
    where
      some : (ms : List Mark) → 0 < length (marked ms) → 0 < length ms
      some [] h = absurd (omega arith)
      some (x ∷ xs) h = omega arith

  pub len_index : finite.len (row_map (marked ms)) ≡ n
  len_index = len_row (marked ms) index.rising ∙ sym index.count

  -- ---- the k-th arc
  module _ (k i : ℕ) (l : k < n) (p : IsPlaceOf ms k i) where
    pub place_inside : k - (mark_at ms i).before < finite.len (mark_at ms i).arcs
    place_inside =
        let here = at_place i p.inside in
        elim (cases_lt (suc i) (length ms)) [
          | inl more ↦
              let next = at_place (suc i) more in
              let e = ap length (marked_next ms i p.inside) in
              omega (
                arith,
                p.upto more,
                p.from,
                here.before,
                next.before,
                e,
                length-append
                    (marked (take i ms)) (finite.entries (mark_at ms i).arcs),
                finite.len-entries
                    (mark_at ms i).arcs,
              )
          | inr last ↦
              let e = ap length (marked_split ms i p.inside) in
              let f = ap (λ xs. length (marked xs)) (no_more ms (suc i) last) in
              omega (
                arith,
                p.from,
                here.before,
                index.count,
                e,
                f,
                length-append
                    (marked (take i ms))
                    (finite.entries (mark_at ms i).arcs ++ marked (drop (suc i) ms)),
                length-append (finite.entries (mark_at ms i).arcs)
                    (marked (drop (suc i) ms)),
                finite.len-entries (mark_at ms i).arcs,
              )
        ]

    pub place_gives : slice_get (finite.entries (row_map (marked ms))) k
        ≡ slice_get (finite.entries (mark_at ms i).arcs) (k - (mark_at ms i).before)
    place_gives =
        let here = at_place i p.inside in
        let b = (mark_at ms i).before in
        ap (λ xs. slice_get xs k) (entries_row (marked ms) index.rising
        ∙ marked_split ms i p.inside)
        ∙ ap (slice_get (marked (take i ms)
        ++ (finite.entries (mark_at ms i).arcs ++ marked (drop (suc i) ms))))
        (let e : k ≡ length (marked (take i ms)) + (k - b) = omega
        (arith, here.before, p.from) in e)
        ∙ get_right (marked (take i ms))
        (finite.entries (mark_at ms i).arcs ++ marked (drop (suc i) ms)) (k - b)
        ∙ get_left (finite.entries (mark_at ms i).arcs) (marked (drop (suc i) ms)) (k - b)
        (omega (arith, place_inside, finite.len-entries (mark_at ms i).arcs))

  -- ---- the ends before a page and from it on
  -- the first end of a page is that at its place in the row
  first_is : (i : ℕ) → i < length ms → (mark_at ms i).first
      ≡ end_at (marked ms) (length (marked (take i ms)))
  first_is i l =
      let here = at_place i l in
      here.first ∙ ap (λ (a : ℕ × ℤ). a.0) (
      sym (get_or_append_left (finite.entries (mark_at ms i).arcs) (marked (drop (suc i) ms)) none
      0 (omega (arith, here.some, finite.len-entries (mark_at ms i).arcs)))
      ∙ sym (get_or-append-add (marked (take i ms))
      (finite.entries (mark_at ms i).arcs ++ marked (drop (suc i) ms)) 0 none)
      ∙ ap (λ xs. get_or xs (length (marked (take i ms)) + 0) none) (sym (marked_split ms i l))
      ∙ ap (λ j. get_or (marked ms) j none)
      (let e : length (marked (take i ms)) + 0
      ≡ length (marked (take i ms)) = omega arith in e))

  inside_marked : (i : ℕ) → i < length ms → length (marked (take i ms)) < length (marked ms)
  inside_marked i l =
      let here = at_place i l in
      omega (
        arith,
        ap length (marked_split ms i l),
        length-append (marked (take i ms))
            (finite.entries (mark_at ms i).arcs ++ marked (drop (suc i) ms)),
        length-append
            (finite.entries (mark_at ms i).arcs) (marked (drop (suc i) ms)),
        finite.len-entries
            (mark_at ms i).arcs,
        here.some,
      )

  -- ---- places and sizes
  pub next_before : (i j : ℕ) → j ≡ i + 1 → j < length ms → (mark_at ms j).before
      ≡ (mark_at ms i).before + finite.len (mark_at ms i).arcs
  next_before i j e l =
      let inside : i < length ms = omega (arith, e, l) in
      let f : j ≡ suc i = omega (arith, e) in
      let next : (mark_at ms j).before ≡ length (marked (take (suc i) ms)) = (at_place j l).before
      ∙ ap (λ k. length (marked (take k ms))) f in
      omega (
        arith,
        next,
        (at_place i inside).before,
        ap length (marked_next ms i inside),
        length-append (marked (take i ms)) (finite.entries (mark_at ms i).arcs),
        finite.len-entries (mark_at ms i).arcs,
      )

  pub last_before : (i : ℕ) → i < length ms → length ms ≤ i + 1 → n
      ≡ (mark_at ms i).before + finite.len (mark_at ms i).arcs
  last_before i l last =
      let e = ap length (marked_split ms i l) in
      let f = ap (λ xs. length (marked xs)) (no_more ms (suc i) (omega (arith, last))) in
      omega (
        arith,
        (at_place i l).before,
        index.count,
        e,
        f,
        length-append (marked (take i ms))
            (finite.entries (mark_at ms i).arcs ++ marked (drop (suc i) ms)),
        length-append
            (finite.entries (mark_at ms i).arcs) (marked (drop (suc i) ms)),
        finite.len-entries
            (mark_at ms i).arcs,
      )

  pub first_rises : (i : ℕ) → suc i < length ms → (mark_at ms i).first < (mark_at ms (suc i)).first
  first_rises i l =
      let here : i < length ms = omega (arith, l) in
      let more : length (marked (take i ms)) < length (marked (take (suc i) ms)) = omega (
        arith,
        ap length (marked_next ms i here),
        length-append (marked (take i ms))
            (finite.entries (mark_at ms i).arcs),
        finite.len-entries (mark_at ms i).arcs,
        (at_place i here).some,
      ) in
      omega (
        arith,
        ends_rise (marked ms) index.rising.rising (length (marked (take i ms)))
            (length (marked (take (suc i) ms))) more (inside_marked (suc i) l),
        first_is i here,
        first_is (suc i) l,
      )

  pub first_below : (i : ℕ) → i < length ms
      → All (λ (a : ℕ × ℤ). a.0 < (mark_at ms i).first) (marked (take i ms))
  first_below i l = All-from_get_or (λ (a : ℕ × ℤ). a.0 < (mark_at ms i).first)
      (marked (take i ms)) none (λ j h.
      let up = ends_rise (marked ms) index.rising.rising j (length (marked (take i ms))) h
      (inside_marked i l) in
      let same : end_at (marked ms) j
      ≡ end_at (marked (take i ms)) j = ap (λ (a : ℕ × ℤ). a.0)
      (ap (λ xs. get_or xs j none) (marked_split ms i l)
      ∙ get_or_append_left (marked (take i ms))
      (finite.entries (mark_at ms i).arcs ++ marked (drop (suc i) ms)) none j h) in
      omega (arith, up, same, first_is i l))

  pub first_from : (i : ℕ) → i < length ms
      → All (λ (a : ℕ × ℤ). (mark_at ms i).first ≤ a.0) (finite.entries (mark_at ms i).arcs)
  first_from i l = All-from_get_or (λ (a : ℕ × ℤ). (mark_at ms i).first ≤ a.0)
      (finite.entries (mark_at ms i).arcs) none (λ j h.
      let f = (at_place i l).first in
      elim (cases_lt 0 j) [
        | inl later ↦ omega (
          arith,
          f,
          ends_rise (finite.entries (mark_at ms i).arcs)
              (finite.entries_sorted (mark_at ms i).arcs) 0 j later h,
        )
        | inr first ↦ let z = ap (end_at (finite.entries (mark_at ms i).arcs))
            (let e : j ≡ 0 = omega (arith, first) in e) in omega (arith, f, z)
      ])

  pub row_upto : (i : ℕ) → i < length ms → IsRow (marked (take (suc i) ms))
  row_upto i l = record {
    rising = sorted_prefix (marked (take (suc i) ms))
        (marked (drop (suc i) ms)) (subst (λ xs. T (is_sorted nat_cmp xs))
        (marked_split ms i l ∙ sym
        (append_assoc (marked (take i ms)) (finite.entries (mark_at ms i).arcs)
        (marked (drop (suc i) ms)))
        ∙ ap (λ xs. xs ++ marked (drop (suc i) ms)) (sym (marked_next ms i l)))
        index.rising.rising);
  }

  -- ---- an end
  module _ (end i : ℕ) (p : IsPlaceFor ms end i) where
    not_before : (j : ℕ) → j < length (marked (take i ms)) → end ≡ end_at (marked (take i ms)) j → ⊥
    not_before j l e = elim (cases_lt 0 i) [
      | inl more ↦
          let up = ends_rise (marked ms) index.rising.rising j (length (marked (take i ms))) l
          (inside_marked i p.inside) in
          let same : end_at (marked ms) j
          ≡ end_at (marked (take i ms)) j = ap (λ (a : ℕ × ℤ). a.0)
          (ap (λ xs. get_or xs j none) (marked_split ms i p.inside)
          ∙ get_or_append_left (marked (take i ms))
          (finite.entries (mark_at ms i).arcs ++ marked (drop (suc i) ms)) none j
          l) in
          omega (arith, up, same, e, first_is i p.inside, p.from more)
      | inr none_before ↦ let z = ap (λ k. length (marked (take k ms)))
          (let f : i ≡ 0 = omega arith in f) in omega (arith, z)
    ]

    not_after : (j : ℕ) → j < length (marked (drop (suc i) ms)) → end
        ≡ end_at (marked (drop (suc i) ms)) j → ⊥
    not_after j l e = elim (cases_lt (suc i) (length ms)) [
      | inl more ↦
          let b : ℕ = length (marked (take (suc i) ms)) in
          let parts : marked ms ≡ marked (take (suc i) ms)
          ++ marked (drop (suc i) ms) = marked_split ms i p.inside
          ∙ sym (append_assoc (marked (take i ms)) (finite.entries (mark_at ms i).arcs)
          (marked (drop (suc i) ms)))
          ∙ ap (λ xs. xs ++ marked (drop (suc i) ms))
          (sym (marked_next ms i p.inside)) in
          let same : end_at (marked ms) (b + j)
          ≡ end_at (marked (drop (suc i) ms)) j = ap (λ (a : ℕ × ℤ). a.0)
          (ap (λ xs. get_or xs (b + j) none) parts
          ∙ get_or-append-add (marked (take (suc i) ms)) (marked (drop (suc i) ms)) j
          none) in
          let far : b + j < length (marked ms) = omega (
            arith,
            ap length parts,
            length-append (marked (take (suc i) ms))
                (marked (drop (suc i) ms)),
          ) in
          elim (cases_lt 0 j) [
            | inl later ↦ let up = ends_rise (marked ms) index.rising.rising b (b + j)
                (omega arith) far in omega (arith, up, same, e, first_is (suc i) more, p.upto more)
            | inr first ↦ let z = ap (end_at (marked ms)) (let f : b + j ≡ b = omega arith in f) in
                omega (arith, z, same, e, first_is (suc i) more, p.upto more)
          ]
      | inr last ↦ let z = ap (λ xs. length (marked xs)) (no_more ms (suc i) last) in omega
          (arith, z)
    ]

    pub place_finds : finite.get (row_map (marked ms)) end ≡ finite.get (mark_at ms i).arcs end
    place_finds =
        get_row (marked ms) index.rising end ∙ ap (find nat_cmp end) (marked_split ms i p.inside)
        ∙ find_right end (marked (take i ms))
        (finite.entries (mark_at ms i).arcs ++ marked (drop (suc i) ms))
        ((find_nowhere (marked (take i ms)) end not_before).0)
        ∙ find_left end (finite.entries (mark_at ms i).arcs) (marked (drop (suc i) ms))
        ((find_nowhere (marked (drop (suc i) ms)) end not_after).0)
        ∙ sym (finite.get-entries (mark_at ms i).arcs end)

-- ---- one more page
pub index_push : (ms : List Mark) (n : ℕ) (m : Mark) (t : ℕ) → IsIndex ms n → IsPlaced n m
    → IsRow (marked ms ++ finite.entries m.arcs) → t ≡ n + finite.len m.arcs
    → IsIndex (ms ++ m ∷ []) t
index_push ms n m t index p row e =
    let all : marked (ms ++ m ∷ []) ≡ marked ms
    ++ finite.entries m.arcs = marked_append ms (m ∷ [])
    ∙ ap (λ xs. marked ms ++ xs) (append-nil (finite.entries m.arcs)) in
    record {
      rising = subst IsRow (sym all) row;
      placed = placed_push 0 n ms m index.placed (omega (arith, index.count)) p;
      count = omega (
        arith,
        e,
        index.count,
        ap length all,
        length-append (marked ms)
            (finite.entries m.arcs),
        finite.len-entries m.arcs,
      );
    }

-- the arcs of a row by its pages, and without pages
pub index_entries : (ms : List Mark) (n : ℕ) → IsIndex ms n → finite.entries (row_map (marked ms))
    ≡ marked ms
index_entries ms n index = entries_row (marked ms) index.rising

pub index_pushed : (ms : List Mark) (n : ℕ) (m : Mark) (t : ℕ) → IsIndex ms n → IsPlaced n m
    → IsRow (marked ms ++ finite.entries m.arcs) → t ≡ n + finite.len m.arcs
    → finite.entries (row_map (marked (ms ++ m ∷ []))) ≡ finite.entries (row_map (marked ms))
    ++ finite.entries m.arcs
index_pushed ms n m t index p row e =
    index_entries (ms ++ m ∷ []) t (index_push ms n m t index p row e) ∙ marked_append ms (m ∷ [])
    ∙ ap (λ xs. marked ms ++ xs) (append-nil (finite.entries m.arcs))
    ∙ ap (λ xs. xs ++ finite.entries m.arcs) (sym (index_entries ms n index))

pub nothing_there : (r : RowMap) (end : ℕ) → finite.len r ≡ 0 → None ≡ finite.get r end
nothing_there r end e = sym (ap (λ m. finite.get m end) (finite.empty_of_len r e)
    ∙ finite.get-empty nat_cmp end)

pub no_entries : (r : RowMap) → r ≡ finite.empty → finite.entries r ≡ []
no_entries r e = ap finite.entries (e ∙ sym map_nil) ∙ entries_row [] (record { rising = tt })

pub no_entries_of_len : (r : RowMap) → finite.len r ≡ 0 → finite.entries r ≡ []
no_entries_of_len r e = no_entries r (finite.empty_of_len r e)

pub joined_push : (xs : List RowMap) (x : RowMap) → joined (xs ++ x ∷ []) ≡ joined xs
    ++ finite.entries x
joined_push [] x = append-nil (finite.entries x)
joined_push (y ∷ ys) x = ap (λ zs. finite.entries y ++ zs) (joined_push ys x)
    ∙ sym (append_assoc (finite.entries y) (joined ys) (finite.entries x))
