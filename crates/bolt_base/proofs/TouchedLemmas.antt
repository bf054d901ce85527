-- The edges that come and go are told by the touched pairs alone.
use Rattle.std.proofs.Common.{◌≡◌, ℤ, false, not, cond, T, List, [], ◌∷◌, map, Option}
use Rattle.std.proofs.Common.{Some, None, refl, sym, ap, ◌∙◌, subst}
use Rattle.std.specs.List.{cons_option}
use Rattle.std.specs.Ordering.{is_lt, is_eq, eq_by_cmp}
use Rattle.std.specs.declared.cmp.Ordering.{Ordering}
use Rattle.std.specs.declared.cmp.Ordering.TheVariants.{Less, Equal, Greater}
use Rattle.std.specs.Cmp.{signed_Decides}
use Rattle.std.specs.FinMap as finite
use Rattle.std.specs.FinMap.Entries.{find, below_all, is_sorted, same_entries}
use Rattle.bolt_base.specs.Graph.{Graph, Pair, pair_cmp, edge}
use Rattle.bolt_base.specs.Change.{same_weights, stays, removed, added}
use Rattle.bolt_base.specs.TouchedPairs.{over, with_key, picked, gone, come, AreTouched}
use Rattle.bolt_base.proofs.EdgeMap.{pairs_total, pairs_exact, test_of_equal_pairs}
use Rattle.bolt_base.proofs.ListLemmas.{cond-not}
use Rattle.bolt_base.proofs.SortedKeys.{both_hold, and_holds}

-- ---- what is picked of sorted pairs
module _ (pick : Pair → Option ℤ → Option ℤ) where
  below_picked : (x : Pair) (es : List (Pair × Option ℤ)) → T (below_all pair_cmp x es)
      → T (below_all pair_cmp x (picked pick es))
  below_picked x [] h = tt
  below_picked x (e ∷ es) h =
      let b = both_hold (is_lt (pair_cmp x e.0)) (below_all pair_cmp x es) h in
      elim (pick e.0 e.1) as (λ o. T
      (below_all pair_cmp x (cons_option (with_key e.0 o) (picked pick es))))
      [ None ↦ below_picked x es b.1 | Some w ↦ and_holds _ _ b.0 (below_picked x es b.1) ]

  sorted_picked : (es : List (Pair × Option ℤ)) → T (is_sorted pair_cmp es)
      → T (is_sorted pair_cmp (picked pick es))
  sorted_picked [] h = tt
  sorted_picked (e ∷ es) h =
      let b = both_hold (below_all pair_cmp e.0 es) (is_sorted pair_cmp es) h in
      elim (pick e.0 e.1) as (λ o. T
      (is_sorted pair_cmp (cons_option (with_key e.0 o) (picked pick es)))) [
        | None ↦ sorted_picked es b.1
        | Some w ↦ and_holds _ _ (below_picked e.0 es b.0)
            (sorted_picked es b.1)
      ]

  abbrev then : Pair → Option (Option ℤ) → Option ℤ
  then q None = None
  then q (Some o) = pick q o

  lower_apart : (q x : Pair) → T (is_lt (pair_cmp q x)) → eq_by_cmp pair_cmp q x ≡ false
  lower_apart q x h = elim (pair_cmp q x) as (λ r. T (is_lt r) → is_eq r ≡ false)
      [ Less ↦ λ _. refl | Equal ↦ λ t. absurd t | Greater ↦ λ t. absurd t ] h

  find_below : (q : Pair) (es : List (Pair × ℤ)) → T (below_all pair_cmp q es)
      → find pair_cmp q es ≡ None
  find_below q [] h = refl
  find_below q (e ∷ es) h = let b = both_hold (is_lt (pair_cmp q e.0)) (below_all pair_cmp q es) h
      in ap
      (λ t. cond t (Some e.1) (find pair_cmp q es)) (lower_apart q e.0 b.0) ∙ find_below q es b.1

  find_picked : (q : Pair) (es : List (Pair × Option ℤ)) → T (is_sorted pair_cmp es)
      → find pair_cmp q (picked pick es) ≡ then q (find pair_cmp q es)
  find_picked q [] h = refl
  find_picked q (e ∷ es) h =
      let b = both_hold (below_all pair_cmp e.0 es) (is_sorted pair_cmp es) h in
      elim (pair_cmp q e.0) as (λ r. pair_cmp q e.0 ≡ r
      → find pair_cmp q (cons_option (with_key e.0 (pick e.0 e.1)) (picked pick es))
      ≡ then q (cond (is_eq r) (Some e.1) (find pair_cmp q es))) [
        | Less ↦ λ c. passed (pick e.0 e.1) c refl ∙ find_picked q es b.1
        | Equal ↦ λ c. here (pairs_exact q e.0 c) c b.0 (pick e.0 e.1) refl
        | Greater ↦ λ c. passed (pick e.0 e.1) c refl ∙ find_picked q es b.1
      ] refl
    where
      passed : {r : Ordering} (o : Option ℤ) → pair_cmp q e.0 ≡ r → is_eq r ≡ false
          → find pair_cmp q (cons_option (with_key e.0 o) (picked pick es))
          ≡ find pair_cmp q (picked pick es)
      passed None c n = refl
      passed (Some w) c n = ap (λ t. cond t (Some w) (find pair_cmp q (picked pick es)))
          (ap is_eq c ∙ n)

      here : q ≡ e.0 → pair_cmp q e.0 ≡ Equal → T (below_all pair_cmp e.0 es) → (o : Option ℤ)
          → pick e.0 e.1 ≡ o
          → find pair_cmp q (cons_option (with_key e.0 o) (picked pick es)) ≡ pick q e.1
      here same c below None p = find_below q (picked pick es)
          (below_picked q es (subst (λ x. T (below_all pair_cmp x es)) (sym same) below)) ∙ sym p
          ∙ ap (λ x. pick x e.1) (sym same)
      here same c below (Some w) p = ap (λ t. cond t (Some w) (find pair_cmp q (picked pick es)))
          (ap is_eq c) ∙ sym p ∙ ap (λ x. pick x e.1) (sym same)

-- ---- the edges that come and go are picks of the touched pairs
module _ (touched : List (Pair × Option ℤ)) (g h : Graph) (t : AreTouched touched g h) where
  same_there : (x y : Option ℤ) → cond (not (same_weights x x)) x None ≡ None
  same_there None y = refl
  same_there (Some w) y = ap (λ b. cond (not b) (Some w) None) ((signed_Decides w w).1 refl)

  at_gone : (q : Pair) (o : Option (Option ℤ)) → find pair_cmp q touched ≡ o
      → cond (not (stays g h q)) (finite.get g.weights q) None ≡ then (gone g) q o
  at_gone q None e =
      ap (λ x. cond (not (same_weights (finite.get g.weights q) x)) (finite.get g.weights q) None)
      (t.told q ∙ ap (λ o. over o (finite.get g.weights q)) e)
      ∙ same_there (finite.get g.weights q) None
  at_gone q (Some w) e =
      ap (λ x. cond (not (same_weights (finite.get g.weights q) x)) (finite.get g.weights q) None)
      (t.told q ∙ ap (λ o. over o (finite.get g.weights q)) e)
      ∙ cond-not (same_weights (finite.get g.weights q) w) (finite.get g.weights q)

  at_come : (q : Pair) (o : Option (Option ℤ)) → find pair_cmp q touched ≡ o
      → cond (not (stays g h q)) (finite.get h.weights q) None ≡ then (come g) q o
  at_come q None e =
      ap (λ x. cond (not (same_weights (finite.get g.weights q) x)) x None)
      (t.told q ∙ ap (λ o. over o (finite.get g.weights q)) e)
      ∙ same_there (finite.get g.weights q) None
  at_come q (Some w) e =
      ap (λ x. cond (not (same_weights (finite.get g.weights q) x)) x None)
      (t.told q ∙ ap (λ o. over o (finite.get g.weights q)) e)
      ∙ cond-not (same_weights (finite.get g.weights q) w) w

  pub removed_picked : removed g h ≡ map edge (picked (gone g) touched)
  removed_picked = ap (map edge) (same_entries pair_cmp pairs_total pairs_exact _ _
      (finite.entries_sorted (finite.retain_keys g.weights (λ k. not (stays g h k))))
      (sorted_picked (gone g) touched t.sorted)
      (λ q. sym (finite.get-entries (finite.retain_keys g.weights (λ k. not (stays g h k))) q)
      ∙ finite.get-retain_keys g.weights (λ k. not (stays g h k)) q
      (test_of_equal_pairs (λ k. not (stays g h k)) q)
      ∙ at_gone q (find pair_cmp q touched) refl
      ∙ sym (find_picked (gone g) q touched t.sorted)))

  pub added_picked : added g h ≡ map edge (picked (come g) touched)
  added_picked = ap (map edge) (same_entries pair_cmp pairs_total pairs_exact _ _
      (finite.entries_sorted (finite.retain_keys h.weights (λ k. not (stays g h k))))
      (sorted_picked (come g) touched t.sorted)
      (λ q. sym (finite.get-entries (finite.retain_keys h.weights (λ k. not (stays g h k))) q)
      ∙ finite.get-retain_keys h.weights (λ k. not (stays g h k)) q
      (test_of_equal_pairs (λ k. not (stays g h k)) q)
      ∙ at_come q (find pair_cmp q touched) refl
      ∙ sym (find_picked (come g) q touched t.sorted)))
