use Rattle.std.proofs.Common.{ℤ, List, pos, replicate, ap, ◌∙◌}
use Rattle.std.specs.FinMap as finite
use Rattle.bolt_base.specs.Graph.{Graph, Pair, Weights}
use Rattle.graph_text.proofs.WeightLemmas.{from_entries-insert}
use Rattle.bolt_make.proofs.made_graph.MadeGraph.join.Goals as goal

pub returns : goal.returns
returns c =
    let p : Pair = (c.args.pair.0, c.args.pair.1) in
    let view : List (Pair × ℤ) → Weights = λ es. finite.from_entries es in
    let more = ap view c.in_ok-insert.ensures.entries
    ∙ from_entries-insert p (pos 1) c.self.inside.weights.entries in
    (λ j. record { attrs = replicate c.self.inside.vertices (pos 0); weights = more j })
    ∙ ap (λ (g : Graph). record g { weights = finite.insert g.weights p (pos 1) }) c.self.view_is
