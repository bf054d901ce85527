-- Beginnings of one list.
use Rattle.std.proofs.Common.{◌≡◌, ℕ, ◌+◌, ◌<◌, ◌≤◌, List, [], ◌∷◌, ◌++◌, map, length}
use Rattle.std.proofs.Common.{refl, ap, sym, ◌∙◌, arith}
use Rattle.std.proofs.lemmas.List.{map-append, length-map}
use mathlib.Core.List.{IsPrefix}
use Rattle.board.specs.declared.kinds.Entry.{Entry}
use Rattle.board.specs.Log.{rounds_of, round_in, origin_of}

-- of two beginnings of one list the shorter begins the longer
pub shorter_begins_longer : {A : Type 0} (xs ys zs : List A) → IsPrefix xs zs → IsPrefix ys zs
    → length xs ≤ length ys → IsPrefix xs ys
shorter_begins_longer [] ys zs p q le = (ys, refl)
shorter_begins_longer (x ∷ xs) [] zs p q le = absurd (omega arith)
shorter_begins_longer (x ∷ xs) (y ∷ ys) [] p q le = absurd (cc (p.1))
shorter_begins_longer (x ∷ xs) (y ∷ ys) (z ∷ zs) p q le =
    let heads : x ≡ y = cc (p.1, q.1) in
    let rest = shorter_begins_longer xs ys zs (p.0, cc (p.1)) (q.0, cc (q.1)) (omega arith) in
    (rest.0, cc (heads, rest.1))

-- a beginning as long as the whole is the whole
pub whole_prefix_is_all : {A : Type 0} (xs ys : List A) → IsPrefix xs ys → length ys ≤ length xs
    → xs ≡ ys
whole_prefix_is_all [] [] p le = refl
whole_prefix_is_all [] (y ∷ ys) p le = absurd (omega arith)
whole_prefix_is_all (x ∷ xs) [] p le = absurd (cc (p.1))
whole_prefix_is_all (x ∷ xs) (y ∷ ys) p le =
    let rest = whole_prefix_is_all xs ys (p.0, cc (p.1)) (omega arith) in cc (p.1, rest)

-- of two books' logs where one begins the other, so do the rounds
pub rounds_begin_too : (xs ys : List Entry) → 0 < length xs → IsPrefix xs ys
    → IsPrefix (rounds_of xs) (rounds_of ys)
rounds_begin_too [] ys some p = absurd (omega arith)
rounds_begin_too (x ∷ xs) [] some p = absurd (cc (p.1))
rounds_begin_too (x ∷ xs) (y ∷ ys) some p =
    let same : xs ++ p.0 ≡ ys = cc (p.1) in
    (map round_in p.0, sym (map-append round_in xs p.0) ∙ ap (λ l. map round_in l) same)

-- an entry more
pub rounds_take_entry : (xs : List Entry) (e : Entry) → 0 < length xs
    → rounds_of (xs ++ e ∷ []) ≡ rounds_of xs ++ round_in e ∷ []
rounds_take_entry [] e some = absurd (omega arith)
rounds_take_entry (x ∷ xs) e some = map-append round_in xs (e ∷ [])

pub origin_stays_first : (xs : List Entry) (e : Entry) → 0 < length xs
    → origin_of (xs ++ e ∷ []) ≡ origin_of xs
origin_stays_first [] e some = absurd (omega arith)
origin_stays_first (x ∷ xs) e some = refl

pub rounds_are_counted : (xs : List Entry) (n : ℕ) → n + 1 ≡ length xs
    → length (rounds_of xs) ≡ n
rounds_are_counted [] n some = absurd (omega arith)
rounds_are_counted (x ∷ xs) n some = length-map xs round_in ∙ omega arith
