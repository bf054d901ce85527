-- Edits of a row in two parts.
use Rattle.std.proofs.Common.{◌≡◌, cond, ℕ, ℤ, pos, zero, suc, ◌+◌, ◌<◌, ◌≤◌, not, T, Bool, true}
use Rattle.std.proofs.Common.{false, List, [], ◌∷◌, ◌++◌, length, take, drop, Option, Some, None}
use Rattle.std.proofs.Common.{refl, sym, ap, ◌∙◌, subst, arith, append_assoc}
use Rattle.std.specs.Ordering.{nat_cmp, eq_by_cmp}
use Rattle.std.specs.declared.cmp.Ordering.TheVariants.{Less, Equal, Greater}
use Rattle.std.specs.List.{All}
use Rattle.std.specs.FinMap.{put}
use Rattle.std.specs.FinMap.Entries.{where_key, by_order}
use Rattle.std.proofs.lemmas.Bool.{lt-ltb}
use Rattle.std.proofs.lemmas.Bool.Decides.{nat_tests}
use Rattle.std.proofs.lemmas.List.Elements.{All-nil, All-cons, All-head, All-tail, All-append}
use Rattle.std.proofs.lemmas.List.Elements.{All-weaker}
use Rattle.std.proofs.lemmas.Grind.{fold-append}
use Rattle.adjacency.specs.Merge.{edit_at, merged}
use Rattle.adjacency.proofs.RowLemmas.{find_nowhere}

abbrev none : ℕ × ℤ
none = (0, pos 0)

abbrev Below : ℕ → List (ℕ × ℤ) → Type 0
Below x es = All (λ e. e.0 < x) es

abbrev From : ℕ → List (ℕ × ℤ) → Type 0
From x es = All (λ e. x ≤ e.0) es

less : (a b : ℕ) → a < b → nat_cmp a b ≡ Less
less a b h = rw (lt-ltb a b h)

more : (a b : ℕ) → b < a → nat_cmp a b ≡ Greater
more a b h = grind (arith, nat_tests)

put_left : (k : ℕ) (w : ℤ) (xs ys : List (ℕ × ℤ)) → All (λ b. k < b.0) ys
    → put nat_cmp k w (xs ++ ys) ≡ put nat_cmp k w xs ++ ys
put_left k w [] [] h = refl
put_left k w [] (b ∷ ys) h = ap (λ r. by_order r ((k, w) ∷ b ∷ ys) ((b.0, w) ∷ ys)
    (b ∷ put nat_cmp k w ys)) (less k b.0 (All-head (λ (e : ℕ × ℤ). k < e.0) b ys h))
put_left k w (a ∷ xs) ys h =
    ap (λ zs. by_order (nat_cmp k a.0) ((k, w) ∷ a ∷ xs ++ ys) ((a.0, w) ∷ xs ++ ys) (a ∷ zs))
    (put_left k w xs ys h)
    ∙ (elim (nat_cmp k a.0) as (λ r. by_order r ((k, w) ∷ a ∷ xs ++ ys) ((a.0, w) ∷ xs ++ ys)
    (a ∷ (put nat_cmp k w xs ++ ys))
    ≡ by_order r ((k, w) ∷ a ∷ xs) ((a.0, w) ∷ xs) (a ∷ put nat_cmp k w xs) ++ ys)
    [ Less ↦ refl | Equal ↦ refl | Greater ↦ refl ])

put_right : (k : ℕ) (w : ℤ) (xs ys : List (ℕ × ℤ)) → Below k xs → put nat_cmp k w (xs ++ ys) ≡ xs
    ++ put nat_cmp k w ys
put_right k w [] ys h = refl
put_right k w (a ∷ xs) ys h =
    ap (λ r. by_order r ((k, w) ∷ a ∷ xs ++ ys) ((a.0, w) ∷ xs ++ ys)
    (a ∷ put nat_cmp k w (xs ++ ys))) (more k a.0 (All-head (λ (e : ℕ × ℤ). e.0 < k) a xs h))
    ∙ ap (λ zs. a ∷ zs) (put_right k w xs ys (All-tail (λ (e : ℕ × ℤ). e.0 < k) a xs h))

where_append : (p : ℕ → Bool) (xs ys : List (ℕ × ℤ)) → where_key nat_cmp p (xs ++ ys)
    ≡ where_key nat_cmp p xs ++ where_key nat_cmp p ys
where_append p [] ys = refl
where_append p (a ∷ xs) ys =
    ap (λ zs. cond (p a.0) (a ∷ zs) zs) (where_append p xs ys)
    ∙ (elim (p a.0) as (λ b. cond b (a ∷ (where_key nat_cmp p xs ++ where_key nat_cmp p ys))
    (where_key nat_cmp p xs ++ where_key nat_cmp p ys)
    ≡ cond b (a ∷ where_key nat_cmp p xs) (where_key nat_cmp p xs)
    ++ where_key nat_cmp p ys) [ true ↦ refl | false ↦ refl ])

edit_left : (k : ℕ) (w : Option ℤ) (xs ys : List (ℕ × ℤ)) → All (λ b. k < b.0) ys
    → edit_at k w (xs ++ ys) ≡ edit_at k w xs ++ ys
edit_left k (Some w) xs ys h = put_left k w xs ys h
edit_left k None xs ys h = where_append (λ x. not (eq_by_cmp nat_cmp k x)) xs ys
    ∙ ap (λ zs. where_key nat_cmp (λ x. not (eq_by_cmp nat_cmp k x)) xs ++ zs)
    ((find_nowhere ys k (λ j l e. let b = h j none l in omega (arith, b, e))).1)

edit_right : (k : ℕ) (w : Option ℤ) (xs ys : List (ℕ × ℤ)) → Below k xs → edit_at k w (xs ++ ys)
    ≡ xs ++ edit_at k w ys
edit_right k (Some w) xs ys h = put_right k w xs ys h
edit_right k None xs ys h = where_append (λ x. not (eq_by_cmp nat_cmp k x)) xs ys
    ∙ ap (λ zs. zs ++ where_key nat_cmp (λ x. not (eq_by_cmp nat_cmp k x)) ys)
    ((find_nowhere xs k (λ j l e. let b = h j none l in omega (arith, b, e))).1)

put_below : (x k : ℕ) (w : ℤ) (xs : List (ℕ × ℤ)) → k < x → Below x xs
    → Below x (put nat_cmp k w xs)
put_below x k w [] l h = All-cons (λ (e : ℕ × ℤ). e.0 < x) (k, w) [] l
    (All-nil (λ (e : ℕ × ℤ). e.0 < x))
put_below x k w (a ∷ xs) l h =
    let P : ℕ × ℤ → Type 0 = λ e. e.0 < x in
    let head = All-head P a xs h in
    let rest = All-tail P a xs h in
    elim (nat_cmp k a.0) as (λ r. All P
    (by_order r ((k, w) ∷ a ∷ xs) ((a.0, w) ∷ xs) (a ∷ put nat_cmp k w xs))) [
      | Less ↦ All-cons P (k, w) (a ∷ xs) l h
      | Equal ↦ All-cons P (a.0, w) xs head rest
      | Greater ↦ All-cons P a (put nat_cmp k w xs) head (put_below x k w xs l rest)
    ]

where_below : (x : ℕ) (p : ℕ → Bool) (xs : List (ℕ × ℤ)) → Below x xs
    → Below x (where_key nat_cmp p xs)
where_below x p [] h = h
where_below x p (a ∷ xs) h =
    let P : ℕ × ℤ → Type 0 = λ e. e.0 < x in
    let rest = where_below x p xs (All-tail P a xs h) in
    elim (p a.0) as (λ b. All P (cond b (a ∷ where_key nat_cmp p xs) (where_key nat_cmp p xs)))
    [ true ↦ All-cons P a (where_key nat_cmp p xs) (All-head P a xs h) rest | false ↦ rest ]

edit_below : (x k : ℕ) (w : Option ℤ) (xs : List (ℕ × ℤ)) → k < x → Below x xs
    → Below x (edit_at k w xs)
edit_below x k (Some w) xs l h = put_below x k w xs l h
edit_below x k None xs l h = where_below x (λ y. not (eq_by_cmp nat_cmp k y)) xs h

-- ---- many edits
module _ (x : ℕ) where
  abbrev EditsBelow : List (ℕ × Option ℤ) → Type 0
  EditsBelow ps = All (λ p. p.0 < x) ps

  pub merged_below : (xs : List (ℕ × ℤ)) (ps : List (ℕ × Option ℤ)) → Below x xs
      → All (λ p. p.0 < x) ps → Below x (merged xs ps)
  merged_below xs [] h b = h
  merged_below xs (p ∷ ps) h b =
      merged_below (edit_at p.0 p.1 xs) ps
      (edit_below x p.0 p.1 xs (All-head (λ (e : ℕ × Option ℤ). e.0 < x) p ps b) h)
      (All-tail (λ (e : ℕ × Option ℤ). e.0 < x) p ps b)

  merged_left : (xs ys : List (ℕ × ℤ)) (ps : List (ℕ × Option ℤ)) → From x ys
      → All (λ p. p.0 < x) ps → merged (xs ++ ys) ps ≡ merged xs ps ++ ys
  merged_left xs ys [] h b = refl
  merged_left xs ys (p ∷ ps) h b =
      let l = All-head (λ (e : ℕ × Option ℤ). e.0 < x) p ps b in
      ap (λ zs. merged zs ps) (edit_left p.0 p.1 xs ys
      (All-weaker (λ (e : ℕ × ℤ). x ≤ e.0) (λ (e : ℕ × ℤ). p.0 < e.0)
      (λ e f. omega (arith, l, f)) ys h))
      ∙ merged_left (edit_at p.0 p.1 xs) ys ps h (All-tail (λ (e : ℕ × Option ℤ). e.0 < x) p ps b)

  merged_right : (xs ys : List (ℕ × ℤ)) (ps : List (ℕ × Option ℤ)) → Below x xs
      → All (λ p. x ≤ p.0) ps → merged (xs ++ ys) ps ≡ xs ++ merged ys ps
  merged_right xs ys [] h b = refl
  merged_right xs ys (p ∷ ps) h b =
      let l = All-head (λ (e : ℕ × Option ℤ). x ≤ e.0) p ps b in
      ap (λ zs. merged zs ps) (edit_right p.0 p.1 xs ys
      (All-weaker (λ (e : ℕ × ℤ). e.0 < x) (λ (e : ℕ × ℤ). e.0 < p.0)
      (λ e f. omega (arith, l, f)) xs h))
      ∙ merged_right xs (edit_at p.0 p.1 ys) ps h (All-tail (λ (e : ℕ × Option ℤ). x ≤ e.0) p ps b)

  -- edits on both sides of x, in a row of two parts that meet at x
  pub merged_parts : (xs ys : List (ℕ × ℤ)) (ps qs : List (ℕ × Option ℤ)) → Below x xs → From x ys
      → All (λ p. p.0 < x) ps → All (λ p. x ≤ p.0) qs → merged (xs ++ ys) (ps ++ qs) ≡ merged xs ps
      ++ merged ys qs
  merged_parts xs ys ps qs below from early late =
      fold-append (λ l (p : ℕ × Option ℤ). edit_at p.0 p.1 l) (xs ++ ys) ps qs
      ∙ ap (λ zs. merged zs qs) (merged_left xs ys ps from early)
      ∙ merged_right (merged xs ps) ys qs (merged_below xs ps below early) late
