-- A walk over vertices that finds those that pass a test, in order.
use Rattle.std.proofs.Common.{◌≡◌, ℕ, zero, suc, ◌+◌, ◌<◌, ◌≤◌, Bool, true, false, ◌||◌, cond}
use Rattle.std.proofs.Common.{List, [], ◌∷◌, ◌++◌, length, get_or, map, filter, take, drop, refl}
use Rattle.std.proofs.Common.{sym, ap, ◌∙◌, subst, inl, inr, arith}
use Rattle.std.specs.List.{range_with_len}
use Rattle.std.proofs.Math.Seq.{get_or-append_seam}
use Rattle.std.proofs.lemmas.Bool.{cases_Bool}
use Rattle.std.proofs.lemmas.List.{append-nil, get_or_append_left, map-append, take-append-drop}
use Rattle.std.proofs.lemmas.List.{take_more}
use Rattle.std.proofs.lemmas.List.Elements.{filter-append}
use Rattle.bolt_base.specs.Graph.{Graph, vertices}
use Rattle.vertex_expr.specs.declared.program.ProgramEntries.{ProgramEntries}
use Rattle.run_model.specs.Refined.{is_again}
use Rattle.run_model.specs.Steps.{is_target, step, targets}
use Rattle.refine_rows.specs.Progress.{again}
use Rattle.refine_rows.proofs.PickLemmas.{filter_within, length_with_one, picked_where}

-- one more item of a list that is made from another one
pub one_more : {X : Type 0} (f : ℕ → X) (vs : List ℕ) (k : ℕ) (xs ys : List X) (x : X)
    → k < length vs → ys ≡ xs ++ x ∷ [] → xs ≡ map f (take k vs) → x ≡ f (get_or vs k 0)
    → ys ≡ map f (take (k + 1) vs)
one_more f vs k xs ys x l pushed so_far is =
    pushed ∙ (λ j. so_far j ++ is j ∷ [])
    ∙ sym (ap (map f) (take_more vs k 0 l) ∙ map-append f (take k vs) (get_or vs k 0 ∷ []))

module _ (t : ℕ → Bool) (xs : List ℕ) (k : ℕ) (l : k < length xs) where
  abbrev next : ℕ
  next = get_or xs k 0

  -- those that were found so far, and those that come after the next one
  abbrev found : List ℕ
  found = filter t (take k xs)

  abbrev later : List ℕ
  later = filter t (drop (k + 1) xs)

  with_next : filter t (take (k + 1) xs) ≡ found ++ cond (t next) (next ∷ []) []
  with_next = ap (filter t) (take_more xs k 0 l) ∙ filter-append t (take k xs) (next ∷ [])

  with_found : t next ≡ true → filter t (take (k + 1) xs) ≡ found ++ next ∷ []
  with_found is = with_next ∙ ap (λ b. found ++ cond b (next ∷ []) []) is

  pub one_found : t next ≡ true → length (filter t (take (k + 1) xs)) ≡ length found + 1
  one_found is = ap length (with_found is) ∙ length_with_one found next

  pub none_found : t next ≡ false → length (filter t (take (k + 1) xs)) ≡ length found
  none_found is = ap length
      (with_next ∙ ap (λ b. found ++ cond b (next ∷ []) []) is ∙ append-nil found)

  -- where the next one passes, it stands at its place among all that pass
  split_at : t next ≡ true → filter t xs ≡ (found ++ next ∷ []) ++ later
  split_at is =
      ap (filter t) (sym (take-append-drop (k + 1) xs))
      ∙ filter-append t (take (k + 1) xs) (drop (k + 1) xs)
      ∙ ap (λ ys. ys ++ later) (with_found is)

  place_there : t next ≡ true → length found < length (filter t xs)
  place_there is =
      let one = length_with_one found next in
      let more = length_more (found ++ next ∷ []) later in
      let all = ap length (split_at is) in
      omega arith
    where
      length_more : (ys zs : List ℕ) → length ys ≤ length (ys ++ zs)
      length_more [] zs = omega arith
      length_more (y ∷ ys) zs = let rest = length_more ys zs in omega arith

  stands_there : t next ≡ true → get_or (filter t xs) (length found) 0 ≡ next
  stands_there is =
      let one = length_with_one found next in
      ap (λ ys. get_or ys (length found) 0) (split_at is)
      ∙ get_or_append_left (found ++ next ∷ []) later 0 (length found) (omega arith)
      ∙ get_or-append_seam found next [] 0

  pub others_fail : (ys : List ℕ) (place : ℕ) → ys ≡ filter t xs → place ≡ length found
      → (place < length ys → get_or ys place 0 ≡ next → ⊥) → t next ≡ false
  others_fail ys place is at other = elim (cases_Bool (t next)) [
    | inl so ↦ absurd (subst (λ n. n < length ys → get_or ys n 0 ≡ next → ⊥) at other
        (subst (λ zs. length found < length zs) (sym is) (place_there so))
        (ap (λ zs. get_or zs (length found) 0) is ∙ stands_there so))
    | inr not_so ↦ not_so
  ]

-- ---- targets among the vertices that are evaluated again
target_again : (p : ProgramEntries) (g h : Graph) (i v : ℕ) → 1 ≤ i
    → is_target p (step p g h i) v ≡ true → is_again p g h i v ≡ true
target_again p g h zero v some is = absurd (omega arith)
target_again p g h (suc i) v some is = among _ _ _ _ is
  where
    among : (n t c a : Bool) → t ≡ true → (((n || t) || c) || a) ≡ true
    among true t c a is = refl
    among false true c a is = refl
    among false false c a is = absurd (let e = is in cc)

pub targets_among : (p : ProgramEntries) (g h : Graph) (i : ℕ) (vs : List ℕ) → 1 ≤ i
    → vs ≡ again p g h i → targets p (step p g h i) ≡ filter (is_target p (step p g h i)) vs
targets_among p g h i vs some is =
    sym (ap (filter (is_target p (step p g h i))) is
    ∙ filter_within (is_again p g h i) (is_target p (step p g h i)) (range_with_len 0 (vertices h))
    (λ v so. target_again p g h i v some so))

pub target_passes : (p : ProgramEntries) (g h : Graph) (i : ℕ) (ts : List ℕ) (k : ℕ)
    → ts ≡ targets p (step p g h i) → k < length ts
    → is_target p (step p g h i) (get_or ts k 0) ≡ true
target_passes p g h i ts k is l =
    let t = is_target p (step p g h i) in
    subst (λ us. t (get_or us k 0) ≡ true) (sym is)
    (picked_where (vertices h) t k (subst (λ us. k < length us) is l)).passes
