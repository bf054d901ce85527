-- Sums over the edges of a graph.
use Rattle.std.proofs.Common.{◌≡◌, ℤ, ◌+ℤ◌, Bool, true, false, not, cond, List, [], ◌∷◌, refl, sym}
use Rattle.std.proofs.Common.{ap, ◌∙◌, arith}
use Rattle.std.proofs.lemmas.Int.{ints}
use Rattle.std.specs.FinMap as finite
use Rattle.std.specs.FinMap.Entries.{where_key}
use Rattle.bolt_base.specs.Graph.{Graph, Pair, pair_cmp, edge, edges}
use Rattle.bolt_base.specs.Change.{edges_at}
use Rattle.bolt_base.specs.declared.edge.Edge.{Edge}
use Rattle.bolt_base.proofs.EdgeMap.{entries-retain_keys}
use Rattle.bolt_base.proofs.Totals.{total, total-map}

-- a sum over the entries is that over those that pass and that over the others
total-split : (f : Pair × ℤ → ℤ) (p : Pair → Bool) (es : List (Pair × ℤ))
    → total f es ≡ total f (where_key pair_cmp p es) +ℤ total f
    (where_key pair_cmp (λ k. not (p k)) es)
total-split f p [] = refl
total-split f p (e ∷ es) =
    elim (p e.0) as (λ b. f e +ℤ total f es
    ≡ total f (cond b (e ∷ where_key pair_cmp p es) (where_key pair_cmp p es)) +ℤ total f
    (cond (not b) (e ∷ where_key pair_cmp (λ k. not (p k)) es)
    (where_key pair_cmp (λ k. not (p k)) es))) [
      | true ↦ omega (arith, ints, total-split f p es)
      | false ↦ omega (arith, ints, total-split f p es)
    ]

pub total-edges : (f : Edge → ℤ) (g : Graph) (p : Pair → Bool)
    → total f (edges g) ≡ total f (edges_at g p) +ℤ total f (edges_at g (λ k. not (p k)))
total-edges f g p =
    total-map edge f (finite.entries g.weights)
    ∙ total-split (λ e. f (edge e)) p (finite.entries g.weights)
    ∙ ap (λ es. total (λ e. f (edge e)) es +ℤ total (λ e. f (edge e))
    (where_key pair_cmp (λ k. not (p k)) (finite.entries g.weights)))
    (sym (entries-retain_keys g.weights p))
    ∙ ap (λ es. total (λ e. f (edge e)) (finite.entries (finite.retain_keys g.weights p)) +ℤ total
    (λ e. f (edge e)) es) (sym (entries-retain_keys g.weights (λ k. not (p k))))
    ∙ ap (λ z. z +ℤ total (λ e. f (edge e))
    (finite.entries (finite.retain_keys g.weights (λ k. not (p k))))) (sym (total-map edge f _))
    ∙ ap (λ z. total f (edges_at g p) +ℤ z) (sym (total-map edge f _))
