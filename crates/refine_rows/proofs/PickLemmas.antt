-- Tests over a range of vertices.
use Rattle.std.proofs.Common.{◌≡◌, ℕ, zero, suc, ◌+◌, ◌-◌, ◌<◌, ◌≤◌, Bool, true, false, not}
use Rattle.std.proofs.Common.{◌&&◌, cond, eqb, ltb, List, [], ◌∷◌, ◌++◌, length, get_or, map}
use Rattle.std.proofs.Common.{filter, take, inl, inr, refl, sym, ap, ◌∙◌, subst, arith}
use Rattle.std.proofs.Common.{length-append}
use Rattle.std.specs.List.{range_with_len, Contains}
use Rattle.std.specs.List.Sorted.{IsSorted, IsStrictlyIncreasing}
use Rattle.std.specs.Ordering.{is_lt, nat_cmp}
use Rattle.std.specs.declared.cmp.Ordering.TheVariants.{Less, Equal, Greater}
use Rattle.std.proofs.lemmas.Bool.{cases_eq, ne_eqb}
use Rattle.std.proofs.lemmas.Bool.Decides.{nat_tests}
use Rattle.std.proofs.lemmas.List.{append-nil, get_or_default, get_or-take, length-take-le}
use Rattle.std.proofs.lemmas.List.{map-append, take_more}
use Rattle.std.proofs.lemmas.List.Elements.{filter-append, filter_agree}
use Rattle.std.proofs.lemmas.List.Kept.{AllPairs-from_increasing, IsStrictlyIncreasing-filter}
use Rattle.std.proofs.lemmas.List.FromFn.{length-range_with_len, get_or-range_with_len}
use Rattle.bolt_base.specs.Differs.{is_new}
use Rattle.bolt_base.specs.Graph.{Graph, vertices}
use Rattle.run_model.proofs.Still.{is_le, not_new}
use Rattle.refine_rows.specs.Picked.{old_only, vertices_where}

pub agree_within : (n m : ℕ) (p q : ℕ → Bool) → ((v : ℕ) → m ≤ v → v < m + n → p v ≡ q v)
    → filter p (range_with_len m n) ≡ filter q (range_with_len m n)
agree_within zero m p q h = refl
agree_within (suc n) m p q h =
    let rest = agree_within n (m + 1) p q (λ v l k. h v (omega arith) (omega arith)) in
    let here : p m ≡ q m = h m (omega arith) (omega arith) in
    λ j. cond (here j) (m ∷ rest j) (rest j)

pub none_within : (n m : ℕ) (p : ℕ → Bool) → ((v : ℕ) → m ≤ v → v < m + n → p v ≡ false)
    → filter p (range_with_len m n) ≡ []
none_within zero m p h = refl
none_within (suc n) m p h =
    ap (λ b. cond b (m ∷ filter p (range_with_len (m + 1) n)) (filter p (range_with_len (m + 1) n)))
    (h m (omega arith) (omega arith))
    ∙ none_within n (m + 1) p (λ v l k. h v (omega arith) (omega arith))

pub all_within : (n m : ℕ) (p : ℕ → Bool) → ((v : ℕ) → m ≤ v → v < m + n → p v ≡ true)
    → filter p (range_with_len m n) ≡ range_with_len m n
all_within zero m p h = refl
all_within (suc n) m p h =
    ap (λ b. cond b (m ∷ filter p (range_with_len (m + 1) n)) (filter p (range_with_len (m + 1) n)))
    (h m (omega arith) (omega arith))
    ∙ ap (λ vs. m ∷ vs) (all_within n (m + 1) p (λ v l k. h v (omega arith) (omega arith)))

range_split : (a m b : ℕ) → range_with_len m (a + b) ≡ range_with_len m a
    ++ range_with_len (m + a) b
range_split zero m b = λ j. range_with_len (let e : m ≡ m + 0 = omega arith in e j)
    (let e : 0 + b ≡ b = omega arith in e j)
range_split (suc a) m b =
    ap (range_with_len m) (let e : suc a + b ≡ suc (a + b) = omega arith in e)
    ∙ ap (λ vs. m ∷ vs) (range_split a (m + 1) b
    ∙ ap (λ k. range_with_len (m + 1) a ++ range_with_len k b)
    (let e : m + 1 + a ≡ m + suc a = omega arith in e))

pub range_next : (a v : ℕ) → a ≤ v
    → range_with_len a (v + 1 - a) ≡ range_with_len a (v - a) ++ v ∷ []
range_next a v low =
    ap (range_with_len a) (let e : v + 1 - a ≡ (v - a) + 1 = omega arith in e)
    ∙ range_split (v - a) a 1
    ∙ ap (λ m. range_with_len a (v - a) ++ m ∷ []) (let e : a + (v - a) ≡ v = omega arith in e)

pub length_with_one : (xs : List ℕ) (y : ℕ) → length (xs ++ y ∷ []) ≡ length xs + 1
length_with_one xs y = let l = length-append xs (y ∷ []) in omega arith

where_split : (k n : ℕ) (p : ℕ → Bool) → k ≤ n
    → vertices_where n p ≡ vertices_where k p ++ filter p (range_with_len k (n - k))
where_split k n p low =
    ap (λ m. filter p (range_with_len 0 m)) (let e : n ≡ k + (n - k) = omega arith in e)
    ∙ ap (filter p) (range_split k 0 (n - k))
    ∙ filter-append p (range_with_len 0 k) (range_with_len (0 + k) (n - k))
    ∙ ap (λ m. vertices_where k p ++ filter p (range_with_len m (n - k)))
    (let e : 0 + k ≡ k = omega arith in e)

module _ (g : Graph) (n : ℕ) (more : vertices g ≤ n) where
  pub where_old : (p : ℕ → Bool) → vertices_where (vertices g) p ≡ vertices_where n (old_only g p)
  where_old p = sym (where_split (vertices g) n (old_only g p) more
      ∙ ap (λ vs. vs ++ filter (old_only g p) (range_with_len (vertices g) (n - vertices g)))
      (agree_within (vertices g) 0 (old_only g p) p
      (λ v l k. ap (λ b. not b && p v) (not_new (vertices g) v (omega arith))))
      ∙ ap (λ vs. vertices_where (vertices g) p ++ vs)
      (none_within (n - vertices g) (vertices g) (old_only g p)
      (λ v l k. ap (λ b. not b && p v) (is_le (vertices g) v l)))
      ∙ append-nil (vertices_where (vertices g) p))

  pub where_new : range_with_len (vertices g) (n - vertices g) ≡ vertices_where n (is_new g)
  where_new = sym (where_split (vertices g) n (is_new g) more
      ∙ ap (λ vs. vs ++ filter (is_new g) (range_with_len (vertices g) (n - vertices g)))
      (none_within (vertices g) 0 (is_new g) (λ v l k. not_new (vertices g) v (omega arith)))
      ∙ all_within (n - vertices g) (vertices g) (is_new g) (λ v l k. is_le (vertices g) v l))

-- one test after another
pub filter_both : {X : Type 0} (p q : X → Bool) (xs : List X)
    → filter q (filter p xs) ≡ filter (λ x. p x && q x) xs
filter_both p q [] = refl
filter_both p q (x ∷ xs) = elim (p x) as (λ b. filter q (cond b (x ∷ filter p xs) (filter p xs))
    ≡ cond (b && q x) (x ∷ filter (λ y. p y && q y) xs) (filter (λ y. p y && q y) xs)) [
      | true ↦ ap (λ ys. cond (q x) (x ∷ ys) ys) (filter_both p q xs)
      | false ↦ filter_both p q xs
    ]

-- ---- members
contains_cons : (x v : ℕ) (xs : List ℕ) → Contains xs v → Contains (x ∷ xs) v
contains_cons x v xs c = (suc c.0, omega (arith, c.1), c.2)

contains_within : (n m : ℕ) (p : ℕ → Bool) (v : ℕ) → m ≤ v → v < m + n → p v ≡ true
    → Contains (filter p (range_with_len m n)) v
contains_within zero m p v l k t = absurd (omega arith)
contains_within (suc n) m p v l k t = elim (cases_eq v m) [
  | inl e ↦
      let here : p m ≡ true = ap p (sym e) ∙ t in
      subst (λ b. Contains (cond b (m ∷ filter p (range_with_len (m + 1) n))
      (filter p (range_with_len (m + 1) n))) v) (sym here)
      (zero, omega arith, sym e)
  | inr d ↦
      let rest = contains_within n (m + 1) p v (omega arith) (omega arith) t in
      elim (p m) as (λ b. Contains (cond b (m ∷ filter p (range_with_len (m + 1) n))
      (filter p (range_with_len (m + 1) n))) v) [
        | true ↦ contains_cons m v (filter p (range_with_len (m + 1) n)) rest
        | false ↦ rest
      ]
]

pub contains_where : (n : ℕ) (p : ℕ → Bool) (v : ℕ) → v < n → p v ≡ true
    → Contains (vertices_where n p) v
contains_where n p v l t = contains_within n 0 p v (omega arith) (omega arith) t

-- what is picked lies in the range and passes
pub record IsPicked (n : ℕ) (p : ℕ → Bool) (v : ℕ) : Type 0 where
  pub below : v < n
  pub passes : p v ≡ true

first_picked : (n m : ℕ) (p : ℕ → Bool) (vs : List ℕ) → m < n → p m ≡ true
    → ((j : ℕ) → j < length vs → IsPicked n p (get_or vs j 0))
    → (j : ℕ) → j < length (m ∷ vs) → IsPicked n p (get_or (m ∷ vs) j 0)
first_picked n m p vs small t rest zero l = record { below = small; passes = t }
first_picked n m p vs small t rest (suc j) l = rest j (omega arith)

picked_within : (n m : ℕ) (p : ℕ → Bool) (k : ℕ) → k < length (filter p (range_with_len m n))
    → IsPicked (m + n) p (get_or (filter p (range_with_len m n)) k 0)
picked_within zero m p k l = absurd (omega arith)
picked_within (suc n) m p k l =
    let vs : List ℕ = filter p (range_with_len (m + 1) n) in
    let rest : ((j : ℕ) → j < length vs → IsPicked (m + suc n) p (get_or vs j 0)) =
    λ j h. subst (λ e. IsPicked e p (get_or vs j 0))
    (let e : m + 1 + n ≡ m + suc n = omega arith in e)
    (picked_within n (m + 1) p j h) in
    elim (p m) as (λ b. p m ≡ b → k < length (cond b (m ∷ vs) vs)
    → IsPicked (m + suc n) p (get_or (cond b (m ∷ vs) vs) k 0)) [
      | true ↦ λ t h. first_picked (m + suc n) m p vs (omega arith) t rest k h
      | false ↦ λ t h. rest k h
    ] refl l

pub picked_where : (n : ℕ) (p : ℕ → Bool) (k : ℕ) → k < length (vertices_where n p)
    → IsPicked n p (get_or (vertices_where n p) k 0)
picked_where n p k l = let r = picked_within n 0 p k l in
    record { below = let b = r.below in omega arith; passes = r.passes }

-- ---- in order
range_rises : (n : ℕ) → IsStrictlyIncreasing (range_with_len 0 n)
range_rises n k l =
    let long = length-range_with_len 0 n in
    let a = get_or-range_with_len 0 n k 0 (omega arith) in
    let b = get_or-range_with_len 0 n (k + 1) 0 (omega arith) in
    omega arith

-- the vertex at a place isn't before it
pub not_before : (n : ℕ) (p : ℕ → Bool) (k v : ℕ) → k < length (vertices_where n p)
    → get_or (vertices_where n p) k 0 ≡ v → Contains (take k (vertices_where n p)) v → ⊥
not_before n p k v l at c =
    let xs : List ℕ = vertices_where n p in
    let rises = AllPairs-from_increasing xs
    (IsStrictlyIncreasing-filter p (range_with_len 0 n) (range_rises n)) in
    let long : length (take k xs) ≡ k = length-take-le k xs (omega arith) in
    let j : ℕ = c.0 in
    let small : j < k = omega (arith, c.1) in
    let less = rises j k 0 small l in
    let same : get_or xs j 0 ≡ v = sym (get_or-take k xs j 0 small)
    ∙ get_or_default (take k xs) j 0 v c.1 ∙ c.2 in
    omega arith

not_less : (x y : ℕ) → y < x → is_lt (nat_cmp x y) ≡ false
not_less x y h =
    ap (λ b. is_lt (cond b Less (cond (eqb x y) Equal Greater)))
    (let t : ltb x y ≡ false = grind (arith, nat_tests) in t)
    ∙ ap (λ b. is_lt (cond b Equal Greater)) (ne_eqb x y (λ e. omega arith))

pub sorted_where : (n : ℕ) (p : ℕ → Bool) → IsSorted nat_cmp (vertices_where n p)
sorted_where n p k d low l =
    let xs : List ℕ = vertices_where n p in
    let a = get_or_default xs k d 0 (omega arith) in
    let b = get_or_default xs (k + 1) d 0 l in
    let less = IsStrictlyIncreasing-filter p (range_with_len 0 n) (range_rises n) k l in
    not_less (get_or xs (k + 1) d) (get_or xs k d) (omega arith)

-- ---- a loop that picks
pub picked_more : {X : Type 0} (f : X → ℕ) (p : ℕ → Bool) (xs : List X) (k : ℕ) (d : X)
    → k < length xs
    → filter p (map f (take (k + 1) xs))
    ≡ filter p (map f (take k xs)) ++ cond (p (f (get_or xs k d))) (f (get_or xs k d) ∷ []) []
picked_more f p xs k d l =
    ap (λ ys. filter p (map f ys)) (take_more xs k d l)
    ∙ ap (filter p) (map-append f (take k xs) (get_or xs k d ∷ []))
    ∙ filter-append p (map f (take k xs)) (f (get_or xs k d) ∷ [])

-- the next one passes, or not
module _ {X : Type 0} (f : X → ℕ) (p : ℕ → Bool) (xs : List X) (k : ℕ) (d : X) (l : k < length xs)
    (us : List ℕ) (so_far : us ≡ filter p (map f (take k xs))) where
  abbrev next : ℕ
  next = f (get_or xs k d)

  pub picked_in : (vs : List ℕ) → p next ≡ true → vs ≡ us ++ next ∷ []
      → vs ≡ filter p (map f (take (k + 1) xs))
  picked_in vs t e = e ∙ ap (λ ys. ys ++ next ∷ []) so_far
      ∙ ap (λ b. filter p (map f (take k xs)) ++ cond b (next ∷ []) []) (sym t)
      ∙ sym (picked_more f p xs k d l)

  pub picked_out : p next ≡ false → us ≡ filter p (map f (take (k + 1) xs))
  picked_out t = so_far ∙ sym (append-nil (filter p (map f (take k xs))))
      ∙ ap (λ b. filter p (map f (take k xs)) ++ cond b (next ∷ []) []) (sym t)
      ∙ sym (picked_more f p xs k d l)

-- where all that pass one test pass another
pub filter_within : {X : Type 0} (p q : X → Bool) (xs : List X)
    → ((x : X) → q x ≡ true → p x ≡ true) → filter q (filter p xs) ≡ filter q xs
filter_within p q xs h = filter_both p q xs
    ∙ filter_agree (λ x. p x && q x) q (λ x. same (p x) (q x) (h x)) xs
  where
    same : (a b : Bool) → (b ≡ true → a ≡ true) → (a && b) ≡ b
    same true b e = refl
    same false true e = e refl
    same false false e = refl

-- a test that is asked only where something else holds
pub unread_where : (n : ℕ) (p : ℕ → Bool) (b : Bool) → b ≡ false
    → vertices_where n (λ v. p v && b) ≡ []
unread_where n p b e = none_within n 0 (λ v. p v && b) (λ v low high. no_more (p v) b e)
  where
    no_more : (a c : Bool) → c ≡ false → (a && c) ≡ false
    no_more true c e = e
    no_more false c e = refl

pub read_where : (n : ℕ) (p : ℕ → Bool) (b : Bool) → b ≡ true
    → vertices_where n (λ v. p v && b) ≡ vertices_where n p
read_where n p b e = agree_within n 0 (λ v. p v && b) p (λ v low high. as_before (p v) b e)
  where
    as_before : (a c : Bool) → c ≡ true → (a && c) ≡ a
    as_before true c e = e
    as_before false c e = refl
