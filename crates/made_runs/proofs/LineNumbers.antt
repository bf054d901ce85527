-- Numbers from 1 on.
use Rattle.std.proofs.Common.{◌≡◌, ◌∙◌, ◌+◌, ◌++◌, ◌∷◌, ℕ, List, [], map, refl, sym, ap, arith}
use Rattle.std.specs.List.{range_with_len}
use Rattle.std.proofs.lemmas.List.FromFn.{map-range_with_len_more}

map_id : (xs : List ℕ) → map (λ (i : ℕ). i) xs ≡ xs
map_id [] = refl
map_id (x ∷ xs) = ap (λ (ys : List ℕ). x ∷ ys) (map_id xs)

pub numbers_more : (k : ℕ) → range_with_len 1 k ++ (k + 1) ∷ [] ≡ range_with_len 1 (k + 1)
numbers_more k =
    sym (sym (map_id (range_with_len 1 (k + 1)))
    ∙ map-range_with_len_more (λ (i : ℕ). i) 1 k (k + 1) (omega arith)
    ∙ ap (λ (l : List ℕ). l ++ (k + 1) ∷ []) (map_id (range_with_len 1 k)))
