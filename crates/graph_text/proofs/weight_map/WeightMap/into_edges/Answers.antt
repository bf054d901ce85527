use Rattle.std.proofs.Common.{◌∙◌, map, ap, sym, List, ℤ}
use Rattle.std.specs.FinMap as finite
use Rattle.bolt_base.specs.Graph.{Pair, Weights, edge}
use Rattle.bolt_base.specs.Plain.{entry}
use Rattle.graph_text.proofs.WeightLemmas.{entry-edge, entries-from_entries}
use Rattle.graph_text.proofs.weight_map.WeightMap.into_edges.Goals as goal

pub returns-clause-edges : goal.returns-clause-edges
returns-clause-edges c =
    let view : List (Pair × ℤ) → Weights = λ es. finite.from_entries es in
    ap view (ap (map entry) (sym c.in_ok-edges.ensures.edges)
    ∙ entry-edge c.self.inside.map.entries) ∙ c.self.view_is

pub returns-clause-sorted : goal.returns-clause-sorted
returns-clause-sorted c =
    sym c.in_ok-edges.ensures.edges
    ∙ ap (map edge) (sym (entries-from_entries c.self.inside.map.entries
    c.in_ok-edges.ensures.ordered) ∙ ap (λ (m : Weights). finite.entries m) c.self.view_is)
