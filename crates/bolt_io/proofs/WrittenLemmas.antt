-- Texts that are written one after another.
use Rattle.std.specs.Prelude.{◌≡◌, ℕ, ◌+◌, List, [], ◌++◌, length, take, Option, Some, None}
use Rattle.std.specs.Option.{option_map}
use Rattle.std.proofs.Common.{refl, sym, ◌∙◌, ap, subst, arith, append_assoc, length-append}
use Rattle.std.proofs.lemmas.List.{append-nil, take-append-le, take_all}
use Rattle.std.proofs.Math.Seq.{take-append-add}
use Rattle.bolt_io.specs.Written.{Wrote, WrotePart}

-- one text after another
pub Wrote-then : (a b c : Option (List ℕ)) (s t : List ℕ) → Wrote a b s → Wrote b c t
    → Wrote a c (s ++ t)
Wrote-then None b c s t first second = second ∙ ap (option_map (λ w. w ++ t)) first
Wrote-then (Some w) b c s t first second = second ∙ ap (option_map (λ w. w ++ t)) first
    ∙ ap (λ (l : List ℕ). Some l) (append_assoc w s t)

-- a whole text and a part of the next
pub WrotePart-then : (a b c : Option (List ℕ)) (s t : List ℕ) → Wrote a b s → WrotePart b c t
    → WrotePart a c (s ++ t)
WrotePart-then a b c s t first part =
    let more : take (length s + part.0) (s ++ t) ≡ s
    ++ take part.0 t = take-append-add s t part.0 in (
      length s + part.0,
      omega (arith, part.1, length-append s t),
      subst (Wrote a c) (sym more)
          (Wrote-then a b c s (take part.0 t) first part.2),
    )

-- a part of the front is a part of the whole
pub WrotePart-more : (a b : Option (List ℕ)) (s t : List ℕ) → WrotePart a b s
    → WrotePart a b (s ++ t)
WrotePart-more a b s t part = (
  part.0,
  omega (arith, part.1, length-append s t),
  subst (Wrote a b)
      (sym (take-append-le part.0 s t part.1)) part.2,
)

-- nothing was written
pub Wrote-none : (a : Option (List ℕ)) → Wrote a a []
Wrote-none None = refl
Wrote-none (Some w) = ap (λ (l : List ℕ). Some l) (sym (append-nil w))

-- nothing is a part of any text
pub WrotePart-none : (a : Option (List ℕ)) (t : List ℕ) → WrotePart a a t
WrotePart-none a t = (0, omega arith, Wrote-none a)

-- all of a text is a part of it
pub WrotePart-all : (a b : Option (List ℕ)) (t : List ℕ) → Wrote a b t → WrotePart a b t
WrotePart-all a b t all = (
  length t,
  omega arith,
  subst (Wrote a b)
      (sym (take_all (length t) t (omega arith))) all,
)
