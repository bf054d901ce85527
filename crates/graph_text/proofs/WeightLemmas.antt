-- A finite map from pairs, kept as the ordered list of its entries.
use Rattle.std.proofs.Common.{◌≡◌, ℤ, T, ◌&&◌, Bool, true, false, cond, List, [], ◌∷◌, map, refl}
use Rattle.std.proofs.Common.{sym, ap, ◌∙◌, subst, Some, None}
use Rattle.std.specs.Ordering.{is_eq, is_lt}
use Rattle.std.specs.declared.cmp.Ordering.{Ordering}
use Rattle.std.specs.declared.cmp.Ordering.TheVariants.{Less, Equal, Greater}
use Rattle.std.specs.FinMap as finite
use Rattle.std.specs.FinMap.Entries.{put, find, by_order, find-put, is_sorted, below_all}
use Rattle.std.specs.FinMap.Entries.{same_entries}
use Rattle.std.specs.BTreeMap.{insert_entry, is_at}
use Rattle.std.specs.Map.{lookup}
use Rattle.std.specs.List.{AllByRecursion}
use Rattle.std.specs.List.Sorted.{IsStrictlySortedBy}
use Rattle.bolt_base.specs.Graph.{Pair, Weights, pair_cmp, edge}
use Rattle.bolt_base.specs.Plain.{entry, AreApart}
use Rattle.bolt_base.proofs.EdgeMap.{pairs_total, pairs_exact}

abbrev Entries : Type 0
Entries = List (Pair × ℤ)

-- what a look-up finds
pub lookup-find : (k : Pair) (es : Entries) → lookup (is_at (pair_cmp k)) es ≡ find pair_cmp k es
lookup-find k [] = refl
lookup-find k (e ∷ es) = ap (cond (is_eq (pair_cmp k e.0)) (Some e.1)) (lookup-find k es)

pub get-lookup : (k : Pair) (es : Entries)
    → finite.get (let m : Weights = finite.from_entries es in m) k ≡ lookup (is_at (pair_cmp k)) es
get-lookup k es = finite.get-from_entries pairs_total es k ∙ sym (lookup-find k es)

insert-put : (k : Pair) (w : ℤ) (es : Entries) → insert_entry pair_cmp es k w ≡ put pair_cmp k w es
insert-put k w [] = refl
insert-put k w (e ∷ es) =
    elim (pair_cmp k e.0) as (λ o. Rattle.std.specs.Ordering.match_ordering o ((k, w) ∷ e ∷ es)
    ((e.0, w) ∷ es) (e ∷ insert_entry pair_cmp es k w)
    ≡ by_order o ((k, w) ∷ e ∷ es) ((e.0, w) ∷ es) (e ∷ put pair_cmp k w es)) [
      | Less ↦ refl
      | Equal ↦ refl
      | Greater ↦ ap (λ (l : Entries). e ∷ l) (insert-put k w es)
    ]

-- an entry put in its place is put into the map
pub from_entries-insert : (k : Pair) (w : ℤ) (es : Entries)
    → ◌≡◌ {A = Weights} (finite.from_entries (insert_entry pair_cmp es k w))
    (finite.insert (finite.from_entries es) k w)
from_entries-insert k w es = finite.same_map pairs_total pairs_exact _ _ (λ q.
    finite.get-from_entries pairs_total (insert_entry pair_cmp es k w) q
    ∙ ap (find pair_cmp q) (insert-put k w es)
    ∙ find-put pair_cmp pairs_total q k w es
    ∙ ap (cond (Rattle.std.specs.Ordering.eq_by_cmp pair_cmp q k) (Some w))
    (sym (finite.get-from_entries pairs_total es q))
    ∙ sym (finite.get-insert pairs_total (finite.from_entries es) k w q))

-- the edges of entries
pub entry-edge : (es : Entries) → map entry (map edge es) ≡ es
entry-edge [] = refl
entry-edge (e ∷ es) = ap (λ (l : Entries). e ∷ l) (entry-edge es)

find_none : (k : Pair) (es : Entries)
    → AllByRecursion (λ y. pair_cmp k y ≡ Less) (map (λ (e : Pair × ℤ). e.0) es)
    → find pair_cmp k es ≡ None
find_none k [] h = refl
find_none k (e ∷ es) h =
    ap (λ (o : Ordering). cond (is_eq o) (Some e.1) (find pair_cmp k es)) h.0 ∙ find_none k es h.1

-- the edges of ordered entries are apart
pub sorted_edges_apart : (es : Entries)
    → IsStrictlySortedBy pair_cmp (map (λ (e : Pair × ℤ). e.0) es) → AreApart (map edge es)
unfolding IsStrictlySortedBy
sorted_edges_apart [] h = tt
sorted_edges_apart (e ∷ es) h =
    (ap (find pair_cmp e.0) (entry-edge es) ∙ find_none e.0 es h.0, sorted_edges_apart es h.1)

-- ordered entries are those of their map
sorted_entries : (es : Entries) → IsStrictlySortedBy pair_cmp (map (λ (e : Pair × ℤ). e.0) es)
    → T (is_sorted pair_cmp es)
unfolding IsStrictlySortedBy
sorted_entries [] h = tt
sorted_entries (e ∷ es) h =
    both (below_all pair_cmp e.0 es) (is_sorted pair_cmp es) (below e.0 es h.0)
    (sorted_entries es h.1)
  where
    both : (a b : Bool) → T a → T b → T (a && b)
    both true b p q = q
    both false b p q = p

    below : (k : Pair) (es : Entries)
        → AllByRecursion (λ y. pair_cmp k y ≡ Less) (map (λ (e : Pair × ℤ). e.0) es)
        → T (below_all pair_cmp k es)
    below k [] h = tt
    below k (e ∷ es) h =
        both (is_lt (pair_cmp k e.0)) (below_all pair_cmp k es)
        (subst (λ (o : Ordering). T (is_lt o)) (sym h.0) tt) (below k es h.1)

pub entries-from_entries : (es : Entries)
    → IsStrictlySortedBy pair_cmp (map (λ (e : Pair × ℤ). e.0) es)
    → finite.entries (let m : Weights = finite.from_entries es in m) ≡ es
entries-from_entries es h =
    same_entries pair_cmp pairs_total pairs_exact _ _
    (finite.entries_sorted (let m : Weights = finite.from_entries es in m))
    (sorted_entries es h)
    (λ q. sym (finite.get-entries (let m : Weights = finite.from_entries es in m) q)
    ∙ finite.get-from_entries pairs_total es q)
