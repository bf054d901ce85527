-- Whether some expression of a list mentions something.
use Rattle.std.proofs.Common.{◌≡◌, ℕ, zero, suc, ◌<◌, Bool, true, false, ◌||◌, List, [], ◌∷◌}
use Rattle.std.proofs.Common.{length, get_or, map, refl, ap, ◌∙◌, arith}
use Rattle.std.specs.List.{list_any}

pub any-map : {A B : Type 0} (p : B → Bool) (f : A → B) (xs : List A)
    → list_any p (map f xs) ≡ list_any (λ x. p (f x)) xs
any-map p f [] = refl
any-map p f (x ∷ xs) = ap (λ b. p (f x) || b) (any-map p f xs)

pub any_here : {X : Type 0} (p : X → Bool) (xs : List X) (k : ℕ) (d : X) → k < length xs
    → p (get_or xs k d) ≡ true → list_any p xs ≡ true
any_here p [] k d l t = absurd (omega arith)
any_here p (x ∷ xs) zero d l t = ap (λ b. b || list_any p xs) t
any_here p (x ∷ xs) (suc k) d l t =
    ap (λ b. p x || b) (any_here p xs k d (omega arith) t)
    ∙ elim (p x) as (λ b. (b || true) ≡ true) [ true ↦ refl | false ↦ refl ]
