-- An edge that is cut from a map of weights.
use Rattle.std.proofs.Common.{◌≡◌, ℤ, Bool, cond, List, sym, ap, ◌∙◌, None}
use Rattle.std.specs.Ordering.{is_eq}
use Rattle.std.specs.Cmp.{eq_by_cmp_equiv}
use Rattle.std.specs.FinMap as finite
use Rattle.std.specs.Map.{lookup}
use Rattle.std.specs.BTreeMap.{is_at}
use Rattle.bolt_base.specs.Graph.{Pair, Weights, pair_cmp}
use Rattle.bolt_base.proofs.EdgeMap.{pairs_total, pairs_exact}
use Rattle.graph_text.proofs.WeightLemmas.{get-lookup}

-- entries that answer as those of a map without a pair are its entries without it
pub from_entries-remove : (k : Pair) (old new : List (Pair × ℤ))
    → ((q : Pair) → lookup (is_at (pair_cmp q)) new
    ≡ cond (is_eq (pair_cmp k q)) None (lookup (is_at (pair_cmp q)) old))
    → ◌≡◌ {A = Weights} (finite.from_entries new) (finite.remove (finite.from_entries old) k)
from_entries-remove k old new h = finite.same_map pairs_total pairs_exact _ _ (λ q.
    get-lookup q new
    ∙ h q
    ∙ ap (cond (is_eq (pair_cmp k q)) None) (sym (get-lookup q old))
    ∙ ap (λ (b : Bool). cond b None (finite.get (let m : Weights = finite.from_entries old in m)
    q)) ((eq_by_cmp_equiv pairs_total).symm k q)
    ∙ sym (finite.get-remove pairs_total (let m : Weights = finite.from_entries old in m) k q))
