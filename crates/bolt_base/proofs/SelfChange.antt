-- Nothing changes from a graph to itself.
use Rattle.std.proofs.Common.{◌≡◌, ℕ, ℤ, Bool, true, false, not, ◌||◌, cond, eqb, List, [], ◌∷◌}
use Rattle.std.proofs.Common.{map, filter, length, refl, sym, ap, ◌∙◌, Option, Some, None}
use Rattle.std.specs.Ordering.{int_eq}
use Rattle.std.specs.Cmp.{signed_Decides}
use Rattle.std.specs.List.{list_any, range_with_len}
use Rattle.std.specs.FinMap as finite
use Rattle.bolt_base.specs.Graph.{Graph, Weights, Pair, pair_cmp, edge, edges}
use Rattle.bolt_base.specs.Change.{same_weights, stays, removed, added, stayed, is_source, sources}
use Rattle.bolt_base.specs.Change.{attr_at, changed_attrs}
use Rattle.bolt_base.specs.Laws.{IsNoChange}
use Rattle.bolt_base.proofs.EdgeMap.{pairs_total, pairs_exact, test_of_equal_pairs}
use Rattle.bolt_base.proofs.Order.{entries-empty}

same_itself : (w : ℤ) → int_eq w w ≡ true
same_itself w = (signed_Decides w w).1 refl

none_differ : (o : Option ℤ) → cond (not (same_weights o o)) o None ≡ None
none_differ None = refl
none_differ (Some w) = ap (λ b. cond (not b) (Some w) None) (same_itself w)

all_stay : (o : Option ℤ) → cond (same_weights o o) o None ≡ o
all_stay None = refl
all_stay (Some w) = ap (λ b. cond b (Some w) None) (same_itself w)

filter_none : {X : Type 0} (p : X → Bool) → ((x : X) → p x ≡ false) → (xs : List X)
    → filter p xs ≡ []
filter_none p none [] = refl
filter_none p none (x ∷ xs) = ap (λ b. cond b (x ∷ filter p xs) (filter p xs)) (none x)
    ∙ filter_none p none xs

module _ (g : Graph) where
  pub removed-self : removed g g ≡ []
  removed-self =
      let p : Pair → Bool = λ k. not (stays g g k) in
      let none : Weights = finite.empty in
      let gone : finite.retain_keys g.weights p
      ≡ none = finite.same_map pairs_total pairs_exact _ _ (λ q.
      finite.get-retain_keys g.weights p q (test_of_equal_pairs p q)
      ∙ none_differ (finite.get g.weights q)
      ∙ sym (finite.get-empty pair_cmp q)) in
      ap (λ m. map edge (finite.entries m)) gone ∙ ap (map edge) entries-empty

  pub added-self : added g g ≡ []
  added-self = removed-self

  pub stayed-self : stayed g g ≡ edges g
  stayed-self =
      let same : finite.retain_keys g.weights (stays g g)
      ≡ g.weights = finite.same_map pairs_total pairs_exact _ _ (λ q.
      finite.get-retain_keys g.weights (stays g g) q (test_of_equal_pairs (stays g g) q)
      ∙ all_stay (finite.get g.weights q)) in
      ap (λ m. map edge (finite.entries m)) same

  pub no_sources : sources g g ≡ []
  no_sources =
      let none : (u : ℕ) → is_source g g u ≡ false = λ u.
      ap (λ es. list_any (λ e. eqb e.src u) es || list_any (λ e. eqb e.src u) (added g g))
      removed-self ∙ ap (list_any (λ e. eqb e.src u)) added-self in
      ap (map _) (filter_none (is_source g g) none (range_with_len 0 (length g.attrs)))

  pub no_changed_attrs : changed_attrs g g ≡ []
  no_changed_attrs =
      ap (map _) (filter_none (λ v. not (int_eq (attr_at g v) (attr_at g v)))
      (λ v. ap not (same_itself (attr_at g v))) (range_with_len 0 (length g.attrs)))

  pub no_change : IsNoChange g
  no_change = record {
    removed = removed-self;
    added = added-self;
    stayed = stayed-self;
    sources = no_sources;
    attrs = no_changed_attrs;
  }
