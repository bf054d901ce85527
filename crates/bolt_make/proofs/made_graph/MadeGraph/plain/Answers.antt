use Rattle.std.proofs.Common.{rules, ◌≡◌, ℤ, List, pos, replicate, sym, ap, ◌∙◌}
use Rattle.std.specs.FinMap as finite
use Rattle.bolt_base.specs.Graph.{Pair, Weights}
use Rattle.bolt_base.specs.Plain.{graph_of}
use Rattle.graph_text.proofs.WeightLemmas.{entry-edge}
use Rattle.bolt_make.proofs.made_graph.MadeGraph.plain.Goals as goal

pub returns : goal.returns
returns c =
    let n = c.self.inside.vertices in
    let es = c.self.inside.weights.entries in
    let view : List (Pair × ℤ) → Weights = λ es. finite.from_entries es in
    let zeros : c.in_ok-attrs.attrs.items ≡ replicate n (pos 0) = search rules in
    let attrs : c.from_vec.result ≡ replicate n (pos 0) = c.from_vec.ensures ∙ zeros in
    let weights = ap view (entry-edge es) in
    c.new.ensures.graph
    ∙ ap (λ (zs : List ℤ). graph_of zs c.in_ok-edges.edges) attrs
    ∙ ap (graph_of (replicate n (pos 0))) (sym c.in_ok-edges.ensures.edges)
    ∙ (λ j. record { attrs = replicate n (pos 0); weights = weights j })
    ∙ c.self.view_is
