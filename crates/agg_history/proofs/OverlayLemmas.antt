-- What a put makes of an overlay.
use Rattle.std.proofs.Common.{◌≡◌, ◌≢◌, ℕ, zero, suc, ◌<◌, List, [], ◌∷◌, ◌++◌, length, get_or, set}
use Rattle.std.proofs.Common.{map, replicate, inl, inr, refl, sym, ap, ◌∙◌, subst, arith}
use Rattle.std.proofs.lemmas.Bool.{cases_eq}
use Rattle.std.proofs.lemmas.List.{get_or-set_same, get_or-set_other, get_or-map, set-get_or}
use Rattle.std.proofs.lemmas.List.{map-set, map_push, length-map, length-set}
use Rattle.bolt_base.specs.Keep.{Entry}
use Rattle.bolt_base.proofs.ListLemmas.{get_or-replicate_same}
use Rattle.agg_history.specs.Puts.{Round, round_at, with_put}
use Rattle.agg_history.specs.PutList.{ListedPuts}
use Rattle.agg_history.specs.Numbered.{AreNumbered}
use Rattle.agg_history.specs.Places.{place_at}
use Rattle.agg_history.specs.OverlayOf.{vertices_in}
use Rattle.agg_history.proofs.NumberLemmas.{numbered_more}

abbrev pub puts_in : List ListedPuts → List Round
puts_in lists = map (λ list. list.puts) lists

-- a list's puts
pub round_is : (lists : List ListedPuts) (i : ℕ) (d : ListedPuts) → i < length lists
    → round_at (puts_in lists) i ≡ (get_or lists i d).puts
round_is lists i d h = get_or-map (λ (list : ListedPuts). list.puts) lists i d [] h

-- a list put back as it was
pub put_back : (lists : List ListedPuts) (i : ℕ) (was now : ListedPuts) → was ≡ get_or lists i was
    → now ≡ was → set lists i now ≡ lists
put_back lists i was now read same = ap (set lists i) (same ∙ read) ∙ set-get_or lists i was

-- a list with a put more
pub put_more : (lists : List ListedPuts) (i v : ℕ) (e : Entry) (was now : ListedPuts)
    → i < length lists → was ≡ get_or lists i was
    → now ≡ record was { puts = was.puts ++ (v, e) ∷ [] }
    → puts_in (set lists i now) ≡ with_put (puts_in lists) i v e
put_more lists i v e was now h read more =
    map-set (λ (list : ListedPuts). list.puts) lists i now
    ∙ ap (λ (list : ListedPuts). set (puts_in lists) i list.puts) more
    ∙ ap (λ (round : Round). set (puts_in lists) i (round ++ (v, e) ∷ []))
    (ap (λ (list : ListedPuts). list.puts) read ∙ sym (round_is lists i was h))

numbered_same : (number other : ℕ → ℕ) (n m : ℕ) (order more : List ℕ)
    → ((u : ℕ) → other u ≡ number u) → m ≡ n → more ≡ order → AreNumbered number n order
    → AreNumbered other m more
numbered_same number other n m order more same size list h = subst (λ k. AreNumbered other k more)
    (sym size) (subst (λ xs. AreNumbered other n xs) (sym list) (record {
      inside = h.inside;
      back = λ p l. same (get_or order p 0) ∙ h.back p l;
      within = λ u p l e. h.within u p l (sym (same u) ∙ e);
      forth = λ u p l e. h.forth u p l (sym (same u) ∙ e);
    }))

-- ---- places and puts, one more of both
module _ (table : List (List ℕ)) (v i x : ℕ) (inside : v < length table) where
  abbrev later : List (List ℕ)
  later = set table v (set (get_or table v []) i x)

  other_place : (u j : ℕ) → (j ≡ i → u ≢ v) → place_at later u j ≡ place_at table u j
  other_place u j other = elim (cases_eq u v) [
    | inl same ↦
        ap (λ k. place_at later k j) same
        ∙ ap (λ line. get_or line j 0)
        (get_or-set_same table v (set (get_or table v []) i x) [] inside)
        ∙ get_or-set_other (get_or table v []) i j x 0 (λ e. other e same)
        ∙ ap (λ k. place_at table k j) (sym same)
    | inr n ↦ ap (λ line. get_or line j 0)
        (get_or-set_other table v u (set (get_or table v []) i x) [] n)
  ]

  module _ (puts : List Round) (e : Entry) (below : i < length puts)
      (there : place_at later v i ≡ x) (new : place_at table v i ≡ 0)
      (last : x ≡ suc (length (round_at puts i))) where
    pub put_numbered : (j : ℕ)
        → AreNumbered (λ u. place_at table u j) (length table) (vertices_in (round_at puts j))
        → AreNumbered (λ u. place_at later u j) (length later)
        (vertices_in (round_at (with_put puts i v e) j))
    put_numbered j h = elim (cases_eq j i) [
      | inl same ↦ here j same h
      | inr other ↦ numbered_same (λ u. place_at table u j) (λ u. place_at later u j) (length table)
          (length later) (vertices_in (round_at puts j))
          (vertices_in (round_at (with_put puts i v e) j))
          (λ u. other_place u j (λ same. absurd (other same)))
          (length-set table v (set (get_or table v []) i x))
          (ap vertices_in (get_or-set_other puts i j (round_at puts i ++ (v, e) ∷ []) [] other)) h
    ]
      where
        here : (j : ℕ) → j ≡ i
            → AreNumbered (λ u. place_at table u j) (length table) (vertices_in (round_at puts j))
            → AreNumbered (λ u. place_at later u j) (length later)
            (vertices_in (round_at (with_put puts i v e) j))
        here j same h =
            let was : AreNumbered (λ u. place_at table u i) (length table)
            (vertices_in (round_at puts i)) = subst
            (λ k. AreNumbered (λ u. place_at table u k) (length table)
            (vertices_in (round_at puts k))) same h in
            let list : vertices_in (round_at (with_put puts i v e) i)
            ≡ vertices_in (round_at puts i) ++ v ∷ [] =
            ap vertices_in (get_or-set_same puts i (round_at puts i ++ (v, e) ∷ []) [] below)
            ∙ map_push (λ (put : ℕ × Entry). put.0) (round_at puts i) (v, e) in
            let more = numbered_more (λ u. place_at table u i) (length table)
            (vertices_in (round_at puts i)) was v inside new (λ u. place_at later u i)
            (there ∙ last ∙ ap suc
            (sym (length-map (round_at puts i) (λ (put : ℕ × Entry). put.0))))
            (λ u other. other_place u i (λ _. other)) in
            let now = numbered_same (λ u. place_at later u i) (λ u. place_at later u i)
            (length table) (length later) (vertices_in (round_at puts i) ++ v ∷ [])
            (vertices_in (round_at (with_put puts i v e) i))
            (λ u. refl) (length-set table v (set (get_or table v []) i x)) list more in
            subst (λ k. AreNumbered (λ u. place_at later u k) (length later)
            (vertices_in (round_at (with_put puts i v e) k))) (sym same) now

-- ---- nothing is put yet
no_place : (n w v i : ℕ) → place_at (replicate n (replicate w 0)) v i ≡ 0
no_place zero w v i = refl
no_place (suc n) w zero i = get_or-replicate_same w i 0
no_place (suc n) w (suc v) i = no_place n w v i

no_round : (m i : ℕ) → round_at (replicate m []) i ≡ []
no_round zero i = refl
no_round (suc m) zero = refl
no_round (suc m) (suc i) = no_round m i

pub no_puts_in : (lanes m : ℕ)
    → puts_in (replicate m (record { lanes = lanes; puts = [] })) ≡ replicate m []
no_puts_in lanes zero = refl
no_puts_in lanes (suc m) = ap (λ rounds. [] ∷ rounds) (no_puts_in lanes m)

pub none_numbered : (table : List (List ℕ)) (puts : List Round) (n w m i : ℕ)
    → table ≡ replicate n (replicate w 0) → puts ≡ replicate m []
    → AreNumbered (λ v. place_at table v i) (length table) (vertices_in (round_at puts i))
none_numbered table puts n w m i blank none =
    subst (λ round. AreNumbered (λ v. place_at table v i) (length table) (vertices_in round))
    (sym (ap (λ p. round_at p i) none ∙ no_round m i)) (record {
      inside = λ p l. absurd (omega arith);
      back = λ p l. absurd (omega arith);
      within = λ v p l e. let z : place_at table v i ≡ 0 = ap (λ t. place_at t v i) blank
          ∙ no_place n w v i in absurd (omega arith);
      forth = λ v p l e. let z : place_at table v i ≡ 0 = ap (λ t. place_at t v i) blank
          ∙ no_place n w v i in absurd (omega arith);
    })
