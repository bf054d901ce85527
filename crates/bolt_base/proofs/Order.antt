-- A fold whose steps commute gives the same over a list of edges, in whatever order, as over its
-- graph.
use Rattle.std.proofs.Common.{◌≡◌, ℤ, cond, List, [], ◌∷◌, map, fold, refl, sym, ap, ◌∙◌, arith}
use Rattle.std.proofs.Common.{Some, None, length}
use Rattle.std.specs.declared.cmp.Ordering.TheVariants.{Less, Equal, Greater}
use Rattle.std.specs.Ordering.{is_eq}
use Rattle.std.specs.FinMap as finite
use Rattle.std.specs.FinMap.Entries.{put, find, by_order}
use Rattle.bolt_base.specs.Graph.{Weights, Pair, pair_cmp, edge, edges}
use Rattle.bolt_base.specs.Plain.{entry, AreApart, graph_of}
use Rattle.bolt_base.specs.declared.edge.Edge.{Edge}
use Rattle.bolt_base.proofs.EdgeMap.{pairs_total}

no_entries : (es : List (Pair × ℤ)) → length es ≡ 0 → es ≡ []
no_entries [] h = refl
no_entries (e ∷ es) h = absurd (omega arith)

pub entries-empty : finite.entries (let none : Weights = finite.empty in none) ≡ []
entries-empty = no_entries (finite.entries finite.empty)
    (sym (finite.len-entries (finite.empty {R = pair_cmp})) ∙ finite.len-empty pair_cmp ℤ)

module _ {B : Type 0} (f : B → Pair × ℤ → B)
    (swap : (b : B) (x y : Pair × ℤ) → f (f b x) y ≡ f (f b y) x) where
  fold-put : (k : Pair) (v : ℤ) (es : List (Pair × ℤ)) (b : B) → find pair_cmp k es ≡ None
      → fold f b (put pair_cmp k v es) ≡ fold f (f b (k, v)) es
  fold-put k v [] b h = refl
  fold-put k v (e ∷ es) b h =
      elim (pair_cmp k e.0) as (λ r. cond (is_eq r) (Some e.1) (find pair_cmp k es) ≡ None
      → fold f b (by_order r ((k, v) ∷ e ∷ es) ((e.0, v) ∷ es) (e ∷ put pair_cmp k v es))
      ≡ fold f (f (f b (k, v)) e) es) [
        | Less ↦ λ n. refl
        | Equal ↦ λ n. absurd (cc)
        | Greater ↦ λ n. fold-put k v es (f b e) n ∙ ap (λ c. fold f c es) (swap b e (k, v))
      ] h

  pub fold-from_entries : (es : List Edge) (b : B) → AreApart es
      → fold f b (finite.entries (finite.from_entries {R = pair_cmp} (map entry es)))
      ≡ fold f b (map entry es)
  fold-from_entries [] b h = ap (fold f b) entries-empty
  fold-from_entries (e ∷ es) b h =
      let rest = finite.from_entries {R = pair_cmp} (map entry es) in
      ap (fold f b) (finite.entries-insert pairs_total rest (e.src, e.dst) e.weight)
      ∙ fold-put (e.src, e.dst) e.weight (finite.entries rest) b
      (sym (finite.get-entries rest (e.src, e.dst))
      ∙ finite.get-from_entries pairs_total (map entry es) (e.src, e.dst) ∙ h.0)
      ∙ fold-from_entries es (f b (entry e)) h.1

fold-map : {X Y B : Type 0} (g : X → Y) (f : B → Y → B) (b : B) (xs : List X)
    → fold f b (map g xs) ≡ fold (λ a x. f a (g x)) b xs
fold-map g f b [] = refl
fold-map g f b (x ∷ xs) = fold-map g f (f b (g x)) xs

pub fold-graph_of : {B : Type 0} (step : B → Edge → B) (start : B) (attrs : List ℤ) (es : List Edge)
    → ((b : B) (x y : Edge) → step (step b x) y ≡ step (step b y) x) → AreApart es
    → fold step start (edges (graph_of attrs es)) ≡ fold step start es
fold-graph_of {B} step start attrs es swap apart =
    let f : B → Pair × ℤ → B = λ b e. step b (edge e) in
    fold-map edge step start (finite.entries (finite.from_entries {R = pair_cmp} (map entry es)))
    ∙ fold-from_entries f (λ b x y. swap b (edge x) (edge y)) es start apart
    ∙ fold-map entry f start es
