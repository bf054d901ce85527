-- A rising list is what passes of a range.
use Rattle.std.proofs.Common.{◌≡◌, ◌↔◌, ℕ, zero, suc, ◌+◌, ◌<◌, ◌≤◌, Bool, true, false, eqb, cond}
use Rattle.std.proofs.Common.{List, [], ◌∷◌, length, get_or, filter, refl, ap, ◌∙◌, subst, arith}
use Rattle.std.proofs.Common.{inl, inr}
use Rattle.std.specs.List.{range_with_len}
use Rattle.std.specs.List.Sorted.{IsNonDecreasingBy}
use Rattle.std.proofs.lemmas.Bool.{cases_eq, eq-eqb, ne_eqb}
use Rattle.std.proofs.lemmas.List.Sorted.{IsNonDecreasingBy-from_sort}
use Rattle.std.proofs.lemmas.List.Sums.{sum_by-cons}
use Rattle.agg_words.specs.View.{View, times}
use Rattle.edge_map.specs.Targets.{AreTargets}

pub times_here : (b x : ℕ) (xs : List ℕ) → x ≡ b → times b (x ∷ xs) ≡ 1 + times b xs
times_here b x xs e = sum_by-cons (λ (c : ℕ). cond {A = ℕ} (eqb c b) 1 0) x xs
    ∙ ap (λ (t : Bool). cond {A = ℕ} t 1 0 + times b xs) (eq-eqb x b e)

pub times_other : (b x : ℕ) (xs : List ℕ) → (x ≡ b → ⊥) → times b (x ∷ xs) ≡ times b xs
times_other b x xs e = sum_by-cons (λ (c : ℕ). cond {A = ℕ} (eqb c b) 1 0) x xs
    ∙ ap (λ (t : Bool). cond {A = ℕ} t 1 0 + times b xs) (ne_eqb x b e)
    ∙ (let z : 0 + times b xs ≡ times b xs = omega arith in z)

pub times_grow : (b x : ℕ) (xs : List ℕ) → times b xs ≤ times b (x ∷ xs)
times_grow b x xs = elim (cases_eq x b) [
  | inl e ↦ let h = times_here b x xs e in omega arith
  | inr e ↦ let h = times_other b x xs e in
      omega arith
]

-- each number is above the one before it, and the first one is at least a
abbrev Rises : ℕ → List ℕ → Type 0
Rises a [] = Unit {0}
Rises a (u ∷ us) = (a ≤ u) × Rises (u + 1) us

sorted_rises : (us : List ℕ) (a : ℕ) → IsNonDecreasingBy (λ (x : ℕ). x) us
    → ((b : ℕ) → times b us ≤ 1) → ((d : ℕ) → 0 < length us → a ≤ get_or us 0 d) → Rises a us
sorted_rises [] a up once least = tt
sorted_rises (u ∷ []) a up once least = (least 0 (omega arith), tt)
sorted_rises (u ∷ w ∷ ws) a up once least = (
  least 0 (omega arith),
  sorted_rises (w ∷ ws) (u + 1) (λ i j d l h. up (suc i) (suc j) d (omega arith) (omega arith))
      (λ b. let m = times_grow b u (w ∷ ws) in let o = once b in omega arith)
      (λ d h. elim (cases_eq w u) [
        | inl e ↦ let o = once u in let x = times_here u u (w ∷ ws) refl in let y = times_here u w
            ws e in absurd (omega arith)
        | inr e ↦ let l = up 0 1 0 (omega arith) (omega arith) in omega arith
      ]),
)

none_below : (us : List ℕ) (a b : ℕ) → Rises a us → b < a → times b us ≡ 0
none_below [] a b r h = refl
none_below (u ∷ us) a b r h = let l = r.0 in times_other b u us (λ e. omega arith)
    ∙ none_below us (u + 1) b r.1 (omega arith)

module _ (f : ℕ → Bool) where
  abbrev Inside : ℕ → ℕ → List ℕ → Type 0
  Inside a n us = (v : ℕ) → a ≤ v → 0 < times v us → (f v ≡ true) × (v < a + n)

  abbrev Covers : ℕ → ℕ → List ℕ → Type 0
  Covers a n us = (v : ℕ) → a ≤ v → v < a + n → f v ≡ true → 0 < times v us

  pass_first : (a n : ℕ) (us : List ℕ) → f a ≡ true
      → ((xs : List ℕ) → Rises (a + 1) xs → Inside (a + 1) n xs → Covers (a + 1) n xs → xs
      ≡ filter f (range_with_len (a + 1) n)) → Rises a us → Inside a (suc n) us
      → Covers a (suc n) us
      → us ≡ a ∷ filter f (range_with_len (a + 1) n)
  pass_first a n [] t rec r i o = let h = o a (omega arith) (omega arith) t in absurd (omega arith)
  pass_first a n (u ∷ us) t rec r i o = elim (cases_eq u a) [
    | inl e ↦
        let rest = rec us (subst (λ (m : ℕ). Rises (m + 1) us) e r.1)
        (λ v l h. let m = times_grow v u us in let b = i v (omega arith) (omega arith) in
        (b.0, let c = b.1 in omega arith))
        (λ v l m h. let b = o v (omega arith) (omega arith) h in let z = times_other v u us
        (λ q. omega arith) in omega arith) in
        λ j. e j ∷ rest j
    | inr e ↦
        let l = r.0 in
        let above : Rises (a + 1) (u ∷ us) = (omega arith, r.1) in
        let z = none_below (u ∷ us) (a + 1) a above (omega arith) in
        let h = o a (omega arith) (omega arith) t in absurd (omega arith)
  ]

  fail_first : (a n : ℕ) (us : List ℕ) → f a ≡ false
      → ((xs : List ℕ) → Rises (a + 1) xs → Inside (a + 1) n xs → Covers (a + 1) n xs → xs
      ≡ filter f (range_with_len (a + 1) n)) → Rises a us → Inside a (suc n) us
      → Covers a (suc n) us
      → us ≡ filter f (range_with_len (a + 1) n)
  fail_first a n us t rec r i o = rec us (above us r i)
      (λ v l h. let b = i v (omega arith) h in (b.0, let c = b.1 in omega arith))
      (λ v l m h. o v (omega arith) (omega arith) h) where
        above : (xs : List ℕ) → Rises a xs → Inside a (suc n) xs → Rises (a + 1) xs
        above [] r i = tt
        above (u ∷ xs) r i = elim (cases_eq u a) [
          | inl e ↦ let z = times_here a u xs e in let b = i a (omega arith) (omega arith) in absurd
              (let q = b.0 in cc)
          | inr e ↦ let l = r.0 in (omega arith, r.1)
        ]

  rising_unique : (n a : ℕ) (us : List ℕ) → Rises a us → Inside a n us → Covers a n us → us
      ≡ filter f (range_with_len a n)
  rising_unique zero a [] r i o = refl
  rising_unique zero a (u ∷ us) r i o = let l = r.0 in let z = times_here u u us refl in let b = i
      u l (omega arith) in let c = b.1 in absurd (omega arith)
  rising_unique (suc n) a us r i o =
      elim (f a) as (λ t. f a ≡ t → us
      ≡ cond t (a ∷ filter f (range_with_len (a + 1) n)) (filter f (range_with_len (a + 1) n))) [
        | true ↦ λ t. pass_first a n us t (rising_unique n (a + 1)) r i o
        | false ↦ λ t. fail_first a n us t (rising_unique n (a + 1)) r i o
      ] refl

-- targets are all vertices that pass, rising
pub targets_filter : (f : ℕ → Bool) (n : ℕ) (ends us : List ℕ) (v : View) → AreTargets ends us v
    → ((b : ℕ) → (0 < times b ends) ↔ (f b ≡ true)) → ((b : ℕ) → f b ≡ true → b < n) → us
    ≡ filter f (range_with_len 0 n)
targets_filter f n ends us v are same small =
    rising_unique f n 0 us (sorted_rises us 0
    (IsNonDecreasingBy-from_sort (λ (x : ℕ). x) us are.rising) are.once (λ d h. omega arith))
    (λ b l h. let t = (same b).0 (are.only b h) in (t, let s = small b t in omega arith))
    (λ b l m t. are.all b ((same b).1 t))
