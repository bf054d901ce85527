-- A plain list of edges and its graph: the same folds over the edges that pass a test, the same
-- numbers of them, the same facts of each, and an edge more.
use Rattle.std.proofs.Common.{◌≡◌, ℤ, ◌+◌, Bool, true, false, cond, List, [], ◌∷◌, ◌++◌, map}
use Rattle.std.proofs.Common.{filter, fold, length, All, refl, sym, ap, ◌∙◌, subst, arith, Option}
use Rattle.std.proofs.Common.{Some, None}
use Rattle.std.proofs.lemmas.List.Elements.{All-nil, All-cons, All-head, All-tail}
use Rattle.std.proofs.lemmas.List.{map-append}
use Rattle.std.specs.Ordering.{eq_by_cmp}
use Rattle.std.specs.Cmp.{eq_by_cmp_equiv}
use Rattle.std.specs.FinMap as finite
use Rattle.std.specs.FinMap.Entries.{find, find-append}
use Rattle.bolt_base.specs.Graph.{Pair, Weights, pair_cmp, edge, edges}
use Rattle.bolt_base.specs.Plain.{entry, AreApart, graph_of}
pub use Rattle.bolt_base.specs.Plain.{found}
use Rattle.bolt_base.specs.declared.edge.Edge.{Edge}
use Rattle.bolt_base.specs.Edits.{edited}
use Rattle.bolt_base.specs.declared.edge.Edit.TheVariants.{Add}
use Rattle.bolt_base.proofs.EdgeMap.{pairs_total, pairs_exact}
use Rattle.bolt_base.proofs.EditLemmas.{one_if, count_added, length_added, All-added, All-before}
use Rattle.bolt_base.proofs.Order.{fold-graph_of, entries-empty}

-- ---- folds over the edges that pass a test
fold-filter : {X B : Type 0} (p : X → Bool) (step : B → X → B) (b : B) (xs : List X)
    → fold step b (filter p xs) ≡ fold (λ a x. cond (p x) (step a x) a) b xs
fold-filter p step b [] = refl
fold-filter p step b (x ∷ xs) =
    elim (p x) as (λ t. fold step b (cond t (x ∷ filter p xs) (filter p xs))
    ≡ fold (λ a y. cond (p y) (step a y) a) (cond t (step b x) b) xs)
    [ true ↦ fold-filter p step (step b x) xs | false ↦ fold-filter p step b xs ]

module _ {B : Type 0} (p : Edge → Bool) (step : B → Edge → B)
    (swap : (b : B) (x y : Edge) → step (step b x) y ≡ step (step b y) x) where
  abbrev passing : B → Edge → B
  passing b e = cond (p e) (step b e) b

  passing-swap : (b : B) (x y : Edge) → passing (passing b x) y ≡ passing (passing b y) x
  passing-swap b x y =
      elim (p x) as (λ s. cond (p y) (step (cond s (step b x) b) y) (cond s (step b x) b)
      ≡ cond s (step (cond (p y) (step b y) b) x) (cond (p y) (step b y) b)) [
        | true ↦ elim (p y) as (λ t. cond t (step (step b x) y) (step b x)
            ≡ step (cond t (step b y) b) x) [ true ↦ swap b x y | false ↦ refl ]
        | false ↦ refl
      ]

  pub fold-filter-graph_of : (start : B) (attrs : List ℤ) (es : List Edge) → AreApart es
      → fold step start (filter p (edges (graph_of attrs es))) ≡ fold step start (filter p es)
  fold-filter-graph_of start attrs es apart =
      fold-filter p step start (edges (graph_of attrs es))
      ∙ fold-graph_of passing start attrs es passing-swap apart
      ∙ sym (fold-filter p step start es)

-- ---- a list with one edge more
none_at : (attrs : List ℤ) (e : Edge) (es : List Edge) → AreApart (e ∷ es)
    → finite.get (graph_of attrs es).weights (e.src, e.dst) ≡ None
none_at attrs e es apart = finite.get-from_entries pairs_total (map entry es) (e.src, e.dst)
    ∙ apart.0

-- ---- numbers of edges
pub length-graph_of : (attrs : List ℤ) (es : List Edge) → AreApart es
    → length (edges (graph_of attrs es)) ≡ length es
length-graph_of attrs [] apart = ap (λ xs. length (map edge xs)) entries-empty
length-graph_of attrs (e ∷ es) apart = let one = length_added (graph_of attrs es) e
    (none_at attrs e es apart) in let rest = length-graph_of attrs es apart.1 in omega
    (arith, one, rest)

pub length-filter-graph_of : (p : Edge → Bool) (attrs : List ℤ) (es : List Edge) → AreApart es
    → length (filter p (edges (graph_of attrs es))) ≡ length (filter p es)
length-filter-graph_of p attrs [] apart = ap (λ xs. length (filter p (map edge xs))) entries-empty
length-filter-graph_of p attrs (e ∷ es) apart =
    count_added (graph_of attrs es) e (none_at attrs e es apart) p
    ∙ ap (λ n. one_if (p e) + n) (length-filter-graph_of p attrs es apart.1)
    ∙ elim (p e) as (λ b. one_if b + length (filter p es)
    ≡ length (cond b (e ∷ filter p es) (filter p es)))
    [ true ↦ omega arith | false ↦ omega arith ]

-- ---- what holds of each edge
pub All-from_graph : (P : Edge → Type 0) (attrs : List ℤ) (es : List Edge) → AreApart es
    → All P (edges (graph_of attrs es)) → All P es
All-from_graph P attrs [] apart h = All-nil P
All-from_graph P attrs (e ∷ es) apart h =
    let both = All-before (graph_of attrs es) e (none_at attrs e es apart) P h in
    All-cons P e es both.0 (All-from_graph P attrs es apart.1 both.1)

pub All-graph_of : (P : Edge → Type 0) (attrs : List ℤ) (es : List Edge) → AreApart es → All P es
    → All P (edges (graph_of attrs es))
All-graph_of P attrs [] apart h = subst (λ xs. All P (map edge xs)) (sym entries-empty) (All-nil P)
All-graph_of P attrs (e ∷ es) apart h =
    All-added (graph_of attrs es) e (none_at attrs e es apart) P (All-head P e es h)
    (All-graph_of P attrs es apart.1 (All-tail P e es h))

-- ---- an edge at the end of the list
pub get-graph_of : (attrs : List ℤ) (es : List Edge) (k : Pair)
    → finite.get (graph_of attrs es).weights k ≡ found es k
get-graph_of attrs es k = finite.get-from_entries pairs_total (map entry es) k

pub found-push : (es : List Edge) (e : Edge) (k : Pair) → found es (e.src, e.dst) ≡ None
    → found (es ++ e ∷ []) k ≡ cond (eq_by_cmp pair_cmp k (e.src, e.dst)) (Some e.weight)
    (found es k)
found-push es e k none = ap (find pair_cmp k) (map-append entry es (e ∷ []))
    ∙ find-append pair_cmp pairs_total (map entry es) (e.src, e.dst) e.weight k none

pub graph_of_push : (attrs : List ℤ) (es : List Edge) (e : Edge) → found es (e.src, e.dst) ≡ None
    → graph_of attrs (es ++ e ∷ []) ≡ edited (graph_of attrs es) (Add e)
graph_of_push attrs es e none =
    let before : Weights = finite.from_entries (map entry es) in
    let after : Weights = finite.from_entries (map entry (es ++ e ∷ [])) in
    let same : after ≡ finite.insert before (e.src, e.dst) e.weight = finite.same_map pairs_total
    pairs_exact after (finite.insert before (e.src, e.dst) e.weight) (λ q.
    get-graph_of attrs (es ++ e ∷ []) q ∙ found-push es e q none
    ∙ ap (cond (eq_by_cmp pair_cmp q (e.src, e.dst)) (Some e.weight))
    (sym (get-graph_of attrs es q))
    ∙ sym (finite.get-insert pairs_total before (e.src, e.dst) e.weight q)) in
    λ i. record { attrs = attrs; weights = same i }

not_first : (t : Bool) (w : ℤ) (o : Option ℤ) → cond t (Some w) o ≡ None → (t ≡ false) × (o ≡ None)
not_first true w o h = absurd (cc)
not_first false w o h = (refl, h)

pub apart_push : (es : List Edge) (e : Edge) → AreApart es → found es (e.src, e.dst) ≡ None
    → AreApart (es ++ e ∷ [])
apart_push [] e apart none = (refl, tt)
apart_push (x ∷ es) e apart none =
    let parts = not_first (eq_by_cmp pair_cmp (e.src, e.dst) (x.src, x.dst)) x.weight
    (found es (e.src, e.dst)) none in
    let other : eq_by_cmp pair_cmp (x.src, x.dst) (e.src, e.dst)
    ≡ false = (eq_by_cmp_equiv pairs_total).symm (x.src, x.dst) (e.src, e.dst) ∙ parts.0 in (
      found-push es e (x.src, x.dst) parts.1
          ∙ ap (λ b. cond b (Some e.weight) (found es (x.src, x.dst))) other
          ∙ apart.0,
      apart_push es e apart.1 parts.1,
    )
