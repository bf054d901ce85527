-- One item more of a list.
use Rattle.std.proofs.Common.{◌≡◌, ℕ, ◌+◌, ◌<◌, Bool, true, false, cond, List, [], ◌∷◌, ◌++◌, length}
use Rattle.std.proofs.Common.{take, filter, Some, sym, ap, ◌∙◌, append_assoc, append-nil, arith}
use Rattle.std.specs.Prelude.{slice_get}
use Rattle.std.specs.List.{range_with_len}
use Rattle.std.proofs.lemmas.List.{take_more, map-id}
use Rattle.std.proofs.lemmas.List.FromFn.{filter_of_map_range_with_len_more}
use Rattle.std.proofs.lemmas.Option.{get_or_from_slice_get}

-- one that was read
pub taken_more : {X : Type 0} (xs : List X) (k : ℕ) (x : X) → k < length xs
    → slice_get xs k ≡ Some x → take (k + 1) xs ≡ take k xs ++ x ∷ []
taken_more xs k x small is = take_more xs k x small
    ∙ ap (λ y. take k xs ++ y ∷ []) (get_or_from_slice_get xs k x x is)

-- one that is appended behind what was there
pub joined_more : {X : Type 0} (base part next all more : List X) (x : X) → all ≡ base ++ part
    → more ≡ all ++ x ∷ [] → next ≡ part ++ x ∷ [] → more ≡ base ++ next
joined_more base part next all more x so_far made is =
    made ∙ ap (λ l. l ++ x ∷ []) so_far ∙ append_assoc base part (x ∷ [])
    ∙ ap (λ l. base ++ l) (sym is)

-- ---- one number more of a range, where it passes or doesn't
module _ (p : ℕ → Bool) (k : ℕ) (us : List ℕ) (so_far : us ≡ filter p (range_with_len 0 k)) where
  next_is : filter p (range_with_len 0 (k + 1))
      ≡ filter p (range_with_len 0 k) ++ cond (p k) (k ∷ []) []
  next_is =
      ap (filter p) (sym (map-id (range_with_len 0 (k + 1))))
      ∙ filter_of_map_range_with_len_more p (λ x. x) 0 k k (omega arith)
      ∙ ap (λ xs. filter p xs ++ cond (p k) (k ∷ []) []) (map-id (range_with_len 0 k))

  pub passes : (vs : List ℕ) → p k ≡ true → vs ≡ us ++ k ∷ []
      → vs ≡ filter p (range_with_len 0 (k + 1))
  passes vs t made = made ∙ ap (λ l. l ++ k ∷ []) so_far
      ∙ ap (λ b. filter p (range_with_len 0 k) ++ cond b (k ∷ []) []) (sym t) ∙ sym next_is

  pub fails : p k ≡ false → us ≡ filter p (range_with_len 0 (k + 1))
  fails t = so_far ∙ sym (append-nil (filter p (range_with_len 0 k)))
      ∙ ap (λ b. filter p (range_with_len 0 k) ++ cond b (k ∷ []) []) (sym t) ∙ sym next_is
