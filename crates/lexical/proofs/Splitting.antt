-- The parts of a list that is split, from its front.
use Rattle.std.proofs.Common.{◌≡◌, ℕ, ◌<◌, Bool, true, false, cond, List, [], ◌∷◌, ◌++◌, length}
use Rattle.std.proofs.Common.{get_or, take, All, refl, sym, ◌∙◌, ap, arith}
use Rattle.std.specs.Prelude.{not}
use Rattle.std.specs.List.{prefix_len, slice_split, onto_first}
use Rattle.std.proofs.lemmas.List.{get_or-take}
use Rattle.std.proofs.lemmas.List.Folds.{length-prefix_len}
use Rattle.std.proofs.lemmas.List.Sums.{prefix_len_passes, prefix_len_stops}
use Rattle.std.proofs.lemmas.List.Elements.{All-head, All-tail}

-- there is a first part
pub record IsSomeParts {X : Type 0} (parts : List (List X)) : Type 0 where
  pub first : List X
  pub others : List (List X)
  pub are : parts ≡ first ∷ others

first_onto : {X : Type 0} (x : X) (parts : List (List X)) → IsSomeParts (onto_first x parts)
first_onto x [] = record { first = x ∷ []; others = []; are = refl }
first_onto x (p ∷ ps) = record { first = x ∷ p; others = ps; are = refl }

first_of_either : {X : Type 0} (b : Bool) (x : X) (parts : List (List X))
    → IsSomeParts (cond b ([] ∷ parts) (onto_first x parts))
first_of_either true x parts = record { first = []; others = parts; are = refl }
first_of_either false x parts = first_onto x parts

pub first_of_split : {X : Type 0} (p : X → Bool) (xs : List X) → IsSomeParts (slice_split p xs)
first_of_split p [] = record { first = []; others = []; are = refl }
first_of_split p (x ∷ xs) = first_of_either (p x) x (slice_split p xs)

-- what stands in front of the first part, where no end stands in it
abbrev pub onto_parts : List ℕ → List (List ℕ) → List (List ℕ)
onto_parts xs [] = xs ∷ []
onto_parts xs (part ∷ parts) = (xs ++ part) ∷ parts

onto_first-onto_parts : (x : ℕ) (xs : List ℕ) (parts : List (List ℕ))
    → onto_first x (onto_parts xs parts) ≡ onto_parts (x ∷ xs) parts
onto_first-onto_parts x xs [] = refl
onto_first-onto_parts x xs (part ∷ parts) = refl

onto_parts-nil : (parts : List (List ℕ)) → IsSomeParts parts → parts ≡ onto_parts [] parts
onto_parts-nil parts some =
    ap (λ (l : List (List ℕ)). l) some.are ∙ ap (onto_parts []) (sym some.are)

pub slice_split-append : (p : ℕ → Bool) (xs ys : List ℕ) → All (λ x. p x ≡ false) xs
    → slice_split p (xs ++ ys) ≡ onto_parts xs (slice_split p ys)
slice_split-append p [] ys none = onto_parts-nil (slice_split p ys) (first_of_split p ys)
slice_split-append p (x ∷ xs) ys none =
    ap (λ b. cond b ([] ∷ slice_split p (xs ++ ys)) (onto_first x (slice_split p (xs ++ ys))))
    (All-head (λ y. p y ≡ false) x xs none)
    ∙ ap (onto_first x) (slice_split-append p xs ys (All-tail (λ y. p y ≡ false) x xs none))
    ∙ onto_first-onto_parts x xs (slice_split p ys)

false_of_not : (b : Bool) → not b ≡ true → b ≡ false
false_of_not true e = sym e
false_of_not false e = refl

true_of_not : (b : Bool) → not b ≡ false → b ≡ true
true_of_not true e = refl
true_of_not false e = sym e

-- what stands before the first element that passes a test doesn't pass it
pub none_before : (p : ℕ → Bool) (xs : List ℕ)
    → All (λ x. p x ≡ false) (take (prefix_len (λ x. not (p x)) xs) xs)
none_before p xs = λ k d h.
    let n = prefix_len (λ x. not (p x)) xs in
    let size : length (take n xs) ≡ n = length-prefix_len (λ x. not (p x)) xs in
    let less : k < n = omega arith in
    ap p (get_or-take n xs k d less)
    ∙ false_of_not (p (get_or xs k d)) (prefix_len_passes (λ x. not (p x)) xs k d less)

-- and that element does
pub passes_next : (p : ℕ → Bool) (xs : List ℕ) → prefix_len (λ x. not (p x)) xs < length xs
    → p (get_or xs (prefix_len (λ x. not (p x)) xs) 0) ≡ true
passes_next p xs l = true_of_not _ (prefix_len_stops (λ x. not (p x)) xs 0 l)
