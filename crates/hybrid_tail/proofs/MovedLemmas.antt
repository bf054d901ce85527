-- Whether a value is another one than it was.
use Rattle.std.proofs.Common.{◌≡◌, ℕ, ℤ, ◌+◌, Bool, true, false, not, ◌↔◌, IsTrue, cond, List}
use Rattle.std.proofs.Common.{[], ◌∷◌, ◌++◌, append-nil, filter, sym, ap, ◌∙◌}
use Rattle.std.proofs.Common.{arith}
use Rattle.std.specs.Cmp.Lexicographic.{pointwise}
use Rattle.std.specs.Cmp.Rules.{signed_items}
use Rattle.std.specs.List.{range_with_len}
use Rattle.std.specs.Ordering.{int_eq}
use Rattle.std.proofs.lemmas.Bool.Decides.{same_from_decides}
use Rattle.std.proofs.lemmas.List.{map-id}
use Rattle.std.proofs.lemmas.List.FromFn.{filter_of_map_range_with_len_more}
use Rattle.run_model.specs.Rows.{Lists, at}

abbrev pub has_moved : Lists → Lists → ℕ → Bool
has_moved last vals v = not (pointwise int_eq (at last v) (at vals v))

-- it was compared
module _ (last vals : Lists) (v : ℕ) (x y : List ℤ) (b : Bool) (same : IsTrue b ↔ (x ≡ y))
    (was : x ≡ at last v) (now : y ≡ at vals v) where
  tested : b ≡ pointwise int_eq (at last v) (at vals v)
  tested = same_from_decides _ _ (
    λ t. sym was ∙ same.0 t ∙ now,
    λ e. same.1 (was ∙ e ∙ sym now),
  ) (signed_items (at last v) (at vals v))

  pub moved_where : b ≡ false → has_moved last vals v ≡ true
  moved_where e = ap not (sym tested ∙ e)

  pub still_where : b ≡ true → has_moved last vals v ≡ false
  still_where e = ap not (sym tested ∙ e)

-- one vertex more of a range
module _ (p : ℕ → Bool) (k : ℕ) (us : List ℕ) (so_far : us ≡ filter p (range_with_len 0 k)) where
  one_more : filter p (range_with_len 0 (k + 1))
      ≡ filter p (range_with_len 0 k) ++ cond (p k) (k ∷ []) []
  one_more =
      ap (filter p) (sym (map-id (range_with_len 0 (k + 1))))
      ∙ filter_of_map_range_with_len_more p (λ x. x) 0 k k (omega arith)
      ∙ ap (λ xs. filter p xs ++ cond (p k) (k ∷ []) []) (map-id (range_with_len 0 k))

  pub range_in : (vs : List ℕ) → p k ≡ true → vs ≡ us ++ k ∷ []
      → vs ≡ filter p (range_with_len 0 (k + 1))
  range_in vs t e = e ∙ ap (λ ys. ys ++ k ∷ []) so_far
      ∙ ap (λ b. filter p (range_with_len 0 k) ++ cond b (k ∷ []) []) (sym t) ∙ sym one_more

  pub range_out : p k ≡ false → us ≡ filter p (range_with_len 0 (k + 1))
  range_out t = so_far ∙ sym (append-nil (filter p (range_with_len 0 k)))
      ∙ ap (λ b. filter p (range_with_len 0 k) ++ cond b (k ∷ []) []) (sym t) ∙ sym one_more
