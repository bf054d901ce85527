-- Lists that rise, merged head by head.
use Rattle.std.proofs.Common.{◌≡◌, ℕ, zero, suc, ◌+◌, ◌<◌, Bool, true, false, ◌||◌, ◌⊎◌}
use Rattle.std.proofs.Common.{cond, eqb, ltb, List, [], ◌∷◌, ◌++◌, length, filter}
use Rattle.std.proofs.Common.{inl, inr, refl, sym, ap, ◌∙◌, arith}
use Rattle.std.specs.List.{range_with_len}
use Rattle.std.proofs.lemmas.Bool.{eq-eqb, ne_eqb}
use Rattle.std.proofs.lemmas.List.{append-nil}
use Rattle.std.proofs.lemmas.Bool.Decides.{nat_tests}
use Rattle.refine_rows.specs.Picked.{vertices_where, AreMerged}

-- one list has the head x, which the other one may have too
abbrev heads_from : ℕ → (List ℕ → List ℕ) → List ℕ → List ℕ → List ℕ
heads_from x rest xs [] = x ∷ xs
heads_from x rest xs (y ∷ ys) =
    cond (ltb y x) (y ∷ heads_from x rest xs ys) (x ∷ rest (cond (eqb x y) ys (y ∷ ys)))

-- the lesser head first, and equal heads once
abbrev pub merged : List ℕ → List ℕ → List ℕ
merged [] ys = ys
merged (x ∷ xs) ys = heads_from x (merged xs) xs ys

-- ---- one step
pub merged_right : (x y : ℕ) (xs ys : List ℕ) → y < x
    → merged (x ∷ xs) (y ∷ ys) ≡ y ∷ merged (x ∷ xs) ys
merged_right x y xs ys h = ap
    (λ b. cond b (y ∷ merged (x ∷ xs) ys) (x ∷ merged xs (cond (eqb x y) ys (y ∷ ys))))
    (let t : ltb y x ≡ true = grind (arith, nat_tests) in t)

pub merged_both : (x y : ℕ) (xs ys : List ℕ) → x ≡ y
    → merged (x ∷ xs) (y ∷ ys) ≡ x ∷ merged xs ys
merged_both x y xs ys h =
    ap (λ b. cond b (y ∷ merged (x ∷ xs) ys) (x ∷ merged xs (cond (eqb x y) ys (y ∷ ys))))
    (let t : ltb y x ≡ false = grind (arith, nat_tests) in t)
    ∙ ap (λ b. x ∷ merged xs (cond b ys (y ∷ ys))) (eq-eqb x y h)

pub merged_left : (x y : ℕ) (xs ys : List ℕ) → x < y
    → merged (x ∷ xs) (y ∷ ys) ≡ x ∷ merged xs (y ∷ ys)
merged_left x y xs ys h =
    ap (λ b. cond b (y ∷ merged (x ∷ xs) ys) (x ∷ merged xs (cond (eqb x y) ys (y ∷ ys))))
    (let t : ltb y x ≡ false = grind (arith, nat_tests) in t)
    ∙ ap (λ b. x ∷ merged xs (cond b ys (y ∷ ys))) (ne_eqb x y (λ e. omega arith))

pub merged_nil : (xs : List ℕ) → merged xs [] ≡ xs
merged_nil [] = refl
merged_nil (x ∷ xs) = refl

-- ---- what tests pick of a range
-- what is picked past x is merged behind x
behind_right : (x n m : ℕ) (q : ℕ → Bool) (xs : List ℕ) → x < m
    → merged (x ∷ xs) (filter q (range_with_len m n))
    ≡ x ∷ merged xs (filter q (range_with_len m n))
behind_right x zero m q xs h = ap (λ zs. x ∷ zs) (sym (merged_nil xs))
behind_right x (suc n) m q xs h = elim (q m) as
    (λ b. merged (x ∷ xs) (cond b (m ∷ filter q (range_with_len (m + 1) n))
    (filter q (range_with_len (m + 1) n)))
    ≡ x ∷ merged xs (cond b (m ∷ filter q (range_with_len (m + 1) n))
    (filter q (range_with_len (m + 1) n)))) [
      | true ↦ merged_left x m xs (filter q (range_with_len (m + 1) n)) h
      | false ↦ behind_right x n (m + 1) q xs (omega arith)
    ]

behind_left : (y n m : ℕ) (p : ℕ → Bool) (ys : List ℕ) → y < m
    → merged (filter p (range_with_len m n)) (y ∷ ys)
    ≡ y ∷ merged (filter p (range_with_len m n)) ys
behind_left y zero m p ys h = refl
behind_left y (suc n) m p ys h = elim (p m) as
    (λ b. merged (cond b (m ∷ filter p (range_with_len (m + 1) n))
    (filter p (range_with_len (m + 1) n))) (y ∷ ys)
    ≡ y ∷ merged (cond b (m ∷ filter p (range_with_len (m + 1) n))
    (filter p (range_with_len (m + 1) n))) ys) [
      | true ↦ merged_right m y (filter p (range_with_len (m + 1) n)) ys h
      | false ↦ behind_left y n (m + 1) p ys (omega arith)
    ]

merged_where : (n m : ℕ) (p q : ℕ → Bool)
    → merged (filter p (range_with_len m n)) (filter q (range_with_len m n))
    ≡ filter (λ v. p v || q v) (range_with_len m n)
merged_where zero m p q = refl
merged_where (suc n) m p q =
    let xs : List ℕ = filter p (range_with_len (m + 1) n) in
    let ys : List ℕ = filter q (range_with_len (m + 1) n) in
    let zs : List ℕ = filter (λ v. p v || q v) (range_with_len (m + 1) n) in
    let rest : merged xs ys ≡ zs = merged_where n (m + 1) p q in
    elim (p m) as (λ a. merged (cond a (m ∷ xs) xs) (cond (q m) (m ∷ ys) ys)
    ≡ cond (a || q m) (m ∷ zs) zs) [
      | true ↦ elim (q m) as (λ b. merged (m ∷ xs) (cond b (m ∷ ys) ys) ≡ m ∷ zs) [
        | true ↦ merged_both m m xs ys refl ∙ ap (λ ts. m ∷ ts) rest
        | false ↦ behind_right m n (m + 1) q xs (omega arith) ∙ ap (λ ts. m ∷ ts) rest
      ]
      | false ↦ elim (q m) as (λ b. merged xs (cond b (m ∷ ys) ys) ≡ cond b (m ∷ zs) zs) [
        | true ↦ behind_left m n (m + 1) p ys (omega arith) ∙ ap (λ ts. m ∷ ts) rest
        | false ↦ rest
      ]
    ]

pub are_merged : (xs ys all : List ℕ) → all ≡ merged xs ys → AreMerged xs ys all
are_merged xs ys all e n p q left right =
    e ∙ ap (λ ts. merged ts ys) left ∙ ap (merged (vertices_where n p)) right
    ∙ merged_where n 0 p q

-- ---- a loop that merges
pub merged_end : (xs ys all : List ℕ) → (length xs ≡ 0) ⊎ (length ys ≡ 0)
    → all ++ merged xs ys ≡ (all ++ xs) ++ ys
merged_end [] ys all e = ap (λ zs. zs ++ ys) (sym (append-nil all))
merged_end (x ∷ xs) [] all e = sym (append-nil (all ++ x ∷ xs))
merged_end (x ∷ xs) (y ∷ ys) all e = absurd (elim e [ inl a ↦ omega arith | inr b ↦ omega arith ])
