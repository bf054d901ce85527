-- What is computed before the first addition.
use Rattle.std.proofs.Common.{append-nil, ◌≡◌, ℕ, ◌+◌, ◌<◌, ◌≤◌, Bool, true, false, cond, List, []}
use Rattle.std.proofs.Common.{◌∷◌, ◌++◌}
use Rattle.std.proofs.Common.{length, get_or, map, filter, refl, sym, ap, ◌∙◌, subst, arith, inl}
use Rattle.std.proofs.Common.{inr, append_assoc}
use Rattle.std.specs.List.{range_with_len}
use Rattle.std.proofs.Math.ListN.{get_or-append}
use Rattle.std.proofs.Math.Seq.{get_or-append_seam}
use Rattle.std.proofs.lemmas.Bool.{cases_eq, cases_lt, le-ltb, lt-ltb}
use Rattle.std.proofs.lemmas.List.{map-append}
use Rattle.std.proofs.lemmas.List.FromFn.{filter_of_map_range_with_len_more}
use Rattle.edge_map.specs.Walks.{from_source}
use Rattle.edge_map.specs.declared.tasks.TaskEdge.{TaskEdge}

-- ---- where the added edges of a source begin
pub from_zero : (xs : List TaskEdge) → xs ≡ from_source 0 xs
from_zero [] = refl
from_zero (x ∷ xs) = let e = le-ltb x.source 0 (omega arith) in rw e refl

pub from_later : (j k : ℕ) → j ≤ k → (xs : List TaskEdge) → from_source k (from_source j xs)
    ≡ from_source k xs
from_later j k h [] = refl
from_later j k h (x ∷ xs) = elim (cases_lt x.source j) [
  | inl before ↦ let e = lt-ltb x.source j before in let f = lt-ltb x.source k (omega arith) in rw
      (e, f) (from_later j k h xs)
  | inr after ↦ let e = le-ltb x.source j after in rw e refl
]

-- ---- one more of a list
pub pushed : {X : Type 0} (P : ℕ → X → Type 0) (xs ys : List X) (x : X) (n : ℕ) → length xs ≡ n
    → ((k : ℕ) (d : X) → k < n → P k (get_or xs k d)) → P n x → ys ≡ xs ++ x ∷ []
    → (k : ℕ) (d : X) → k < n + 1 → P k (get_or ys k d)
pushed P xs ys x n long each one e k d small = elim (cases_eq k n) [
  | inl here ↦ subst (P k) (sym (ap (λ zs. get_or zs k d) e
      ∙ ap (λ i. get_or (xs ++ x ∷ []) i d) (here ∙ sym long) ∙ get_or-append_seam xs x [] d))
      (subst (λ i. P i x) (sym here) one)
  | inr apart ↦ let lt : k < n = omega arith in subst (P k)
      (sym (ap (λ zs. get_or zs k d) e ∙ get_or-append xs (x ∷ []) d k (omega arith))) (each k d lt)
]

-- ---- one more place
places_more : (f : ℕ → Bool) (k : ℕ) → filter f (range_with_len 0 (k + 1))
    ≡ filter f (range_with_len 0 k) ++ cond (f k) (k ∷ []) []
places_more f k = sym (ap (filter f) (map_id (range_with_len 0 (k + 1))))
    ∙ filter_of_map_range_with_len_more f (λ (i : ℕ). i) 0 k k (omega arith)
    ∙ ap (λ l. filter f l ++ cond (f k) (k ∷ []) []) (map_id (range_with_len 0 k)) where
      map_id : (xs : List ℕ) → map (λ (i : ℕ). i) xs ≡ xs
      map_id [] = refl
      map_id (x ∷ xs) = ap (λ ys. x ∷ ys) (map_id xs)

pub place_passes : {X : Type 0} (g : ℕ → X) (f : ℕ → Bool) (k : ℕ) (zs xs ys : List X) → f k ≡ true
    → xs ≡ zs ++ map g (filter f (range_with_len 0 k)) → ys ≡ xs ++ g k ∷ [] → ys ≡ zs
    ++ map g (filter f (range_with_len 0 (k + 1)))
place_passes {X} g f k zs xs ys pass so_far e =
    let more = places_more f k in
    e ∙ ap (λ (l : List X). l ++ g k ∷ []) so_far
    ∙ append_assoc zs (map g (filter f (range_with_len 0 k))) (g k ∷ [])
    ∙ ap (λ (l : List X). zs ++ l) (sym (map-append g (filter f (range_with_len 0 k)) (k ∷ [])))
    ∙ ap (λ (l : List ℕ). zs ++ map g l)
    (ap (λ (b : Bool). filter f (range_with_len 0 k) ++ cond b (k ∷ []) []) (sym pass)
    ∙ sym more)

pub place_fails : {X : Type 0} (g : ℕ → X) (f : ℕ → Bool) (k : ℕ) (zs xs : List X) → f k ≡ false
    → xs ≡ zs ++ map g (filter f (range_with_len 0 k)) → xs ≡ zs
    ++ map g (filter f (range_with_len 0 (k + 1)))
place_fails {X} g f k zs xs fails so_far =
    let more = places_more f k in
    so_far ∙ ap (λ (l : List ℕ). zs ++ map g l)
    (sym (more ∙ ap (λ (b : Bool). filter f (range_with_len 0 k) ++ cond b (k ∷ []) []) fails
    ∙ append-nil (filter f (range_with_len 0 k))))
