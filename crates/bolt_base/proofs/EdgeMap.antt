-- The finite map of a graph: how pairs compare, the entries that pass a test, and what two graphs
-- share.
use Rattle.std.proofs.Common.{◌≡◌, ℤ, Bool, true, false, cond, List, [], ◌∷◌, map, filter, refl}
use Rattle.std.proofs.Common.{sym, ap, ◌∙◌, subst, Option, Some, None}
use Rattle.std.specs.Ordering.{nat_cmp, is_eq, eq_by_cmp}
use Rattle.std.specs.declared.cmp.Ordering.{Ordering}
use Rattle.std.specs.declared.cmp.Ordering.TheVariants.{Less, Equal, Greater}
use Rattle.std.specs.Cmp.{IsTotalOrder, nat_cmp_total, signed_Decides}
use Rattle.std.proofs.lemmas.Cmp.{on_total, then_total}
use Rattle.std.proofs.lemmas.Map.Lookups.{exact_pairs, exact_unsigned}
use Rattle.std.specs.FinMap as finite
use Rattle.std.specs.FinMap.{IsAntisymmetric}
use Rattle.std.specs.FinMap.Entries.{where_key, find-where_key, is_sorted-where_key, same_entries}
use Rattle.std.specs.List.{All, AllByRecursion}
use Rattle.std.proofs.lemmas.List.Elements.{recursion_from_All, All-from_recursion}
use Rattle.bolt_base.specs.Graph.{Graph, Weights, Pair, pair_cmp, edge, edges}
use Rattle.bolt_base.specs.Change.{same_weights, stays, edges_at, stayed}
use Rattle.bolt_base.specs.declared.edge.Edge.{Edge}

pub pairs_total : IsTotalOrder pair_cmp
pairs_total = then_total (on_total (λ (p : Pair). p.0) nat_cmp_total)
    (on_total (λ (p : Pair). p.1) nat_cmp_total)

pub pairs_exact : IsAntisymmetric pair_cmp
pairs_exact = exact_pairs nat_cmp nat_cmp exact_unsigned exact_unsigned

-- pairs that tie are equal
pub tied_pairs_equal : (p q : Pair) → eq_by_cmp pair_cmp p q ≡ true → p ≡ q
tied_pairs_equal p q e = pairs_exact p q (is_equal (pair_cmp p q) e)
  where
    is_equal : (r : Ordering) → is_eq r ≡ true → r ≡ Equal
    is_equal Less h = cc
    is_equal Equal h = refl
    is_equal Greater h = cc

-- a test on pairs cannot tell equal ones apart
pub test_of_equal_pairs : (p : Pair → Bool) (q x : Pair) → pair_cmp q x ≡ Equal → p x ≡ p q
test_of_equal_pairs p q x e = ap p (sym (pairs_exact q x e))

pub entries-retain_keys : (m : Weights) (p : Pair → Bool)
    → finite.entries (finite.retain_keys m p) ≡ where_key pair_cmp p (finite.entries m)
entries-retain_keys m p =
    same_entries pair_cmp pairs_total pairs_exact _ _
    (finite.entries_sorted (finite.retain_keys m p))
    (is_sorted-where_key pair_cmp p (finite.entries m) (finite.entries_sorted m))
    (λ q. sym (finite.get-entries (finite.retain_keys m p) q)
    ∙ finite.get-retain_keys m p q (test_of_equal_pairs p q)
    ∙ ap (λ o. cond (p q) o None) (finite.get-entries m q)
    ∙ sym (find-where_key pair_cmp p q (test_of_equal_pairs p q) (finite.entries m)))

-- the edges at the pairs that pass, among all edges
filter_edges : (p : Pair → Bool) (es : List (Pair × ℤ))
    → map edge (where_key pair_cmp p es) ≡ filter (λ e. p (e.src, e.dst)) (map edge es)
filter_edges p [] = refl
filter_edges p (e ∷ es) = elim (p e.0) as
    (λ b. map edge (cond b (e ∷ where_key pair_cmp p es) (where_key pair_cmp p es))
    ≡ cond b (edge e ∷ filter (λ x. p (x.src, x.dst)) (map edge es))
    (filter (λ x. p (x.src, x.dst)) (map edge es))) [
      | true ↦ ap (λ xs. edge e ∷ xs) (filter_edges p es)
      | false ↦ filter_edges p es
    ]

pub edges_at-filter : (g : Graph) (p : Pair → Bool)
    → edges_at g p ≡ filter (λ e. p (e.src, e.dst)) (edges g)
edges_at-filter g p = ap (map edge) (entries-retain_keys g.weights p)
    ∙ filter_edges p (finite.entries g.weights)

-- ---- what two graphs share
both_there : (x y : Option ℤ) → same_weights x y ≡ true → x ≡ y
both_there (Some x) (Some y) e = ap Some ((signed_Decides x y).0 e)
both_there (Some x) None e = cc
both_there None y e = cc

same_there : (x y : Option ℤ) (b : Bool) → same_weights x y ≡ b → cond b x None ≡ cond b y None
same_there x y true e = both_there x y e
same_there x y false e = refl

pub stayed_weights_same : (g h : Graph)
    → finite.retain_keys g.weights (stays g h) ≡ finite.retain_keys h.weights (stays g h)
stayed_weights_same g h = finite.same_map pairs_total pairs_exact _ _ (λ q.
    finite.get-retain_keys g.weights (stays g h) q (test_of_equal_pairs (stays g h) q)
    ∙ same_there (finite.get g.weights q) (finite.get h.weights q) (stays g h q) refl
    ∙ sym (finite.get-retain_keys h.weights (stays g h) q (test_of_equal_pairs (stays g h) q)))

-- the edges that stayed are one list, whichever graph they are read from
pub edges_at-shared : (g h : Graph) → edges_at g (stays g h) ≡ stayed g h
edges_at-shared g h = ap (λ m. map edge (finite.entries m)) (stayed_weights_same g h)

-- ---- what holds of each edge holds of those that pass
AllByRecursion-where_key : (P : Pair × ℤ → Type 0) (p : Pair → Bool) (es : List (Pair × ℤ))
    → AllByRecursion P es
    → AllByRecursion P (where_key pair_cmp p es)
AllByRecursion-where_key P p [] h = tt
AllByRecursion-where_key P p (e ∷ es) h = elim (p e.0) as
    (λ b. AllByRecursion P (cond b (e ∷ where_key pair_cmp p es) (where_key pair_cmp p es))) [
      | true ↦ (h.0, AllByRecursion-where_key P p es h.1)
      | false ↦ AllByRecursion-where_key P p es
          h.1
    ]

AllByRecursion-from_map : (P : Edge → Type 0) (es : List (Pair × ℤ))
    → AllByRecursion P (map edge es)
    → AllByRecursion (λ e. P (edge e)) es
AllByRecursion-from_map P [] h = tt
AllByRecursion-from_map P (e ∷ es) h = (h.0, AllByRecursion-from_map P es h.1)

AllByRecursion-to_map : (P : Edge → Type 0) (es : List (Pair × ℤ))
    → AllByRecursion (λ e. P (edge e)) es
    → AllByRecursion P (map edge es)
AllByRecursion-to_map P [] h = tt
AllByRecursion-to_map P (e ∷ es) h = (h.0, AllByRecursion-to_map P es h.1)

pub AllByRecursion-edges_at : (P : Edge → Type 0) (g : Graph) (p : Pair → Bool)
    → AllByRecursion P (edges g) → AllByRecursion P (edges_at g p)
AllByRecursion-edges_at P g p h =
    subst (λ es. AllByRecursion P (map edge es)) (sym (entries-retain_keys g.weights p))
    (AllByRecursion-to_map P (where_key pair_cmp p (finite.entries g.weights))
    (AllByRecursion-where_key (λ e. P (edge e)) p (finite.entries g.weights)
    (AllByRecursion-from_map P (finite.entries g.weights) h)))

pub All-edges_at : (P : Edge → Type 0) (g : Graph) (p : Pair → Bool) → All P (edges g)
    → All P (edges_at g p)
All-edges_at P g p h = All-from_recursion P (edges_at g p)
    (AllByRecursion-edges_at P g p (recursion_from_All P (edges g) h))
