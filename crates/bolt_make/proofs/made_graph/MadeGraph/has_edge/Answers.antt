use Rattle.std.proofs.Common.{ℤ, Option, sym, ap, ◌∙◌}
use Rattle.std.specs.Prelude.{is_some}
use Rattle.std.specs.FinMap as finite
use Rattle.bolt_base.specs.Graph.{Graph, Pair}
use Rattle.graph_text.proofs.WeightLemmas.{get-lookup}
use Rattle.bolt_make.proofs.made_graph.MadeGraph.has_edge.Goals as goal

pub returns : goal.returns
returns c =
    let p : Pair = (c.args.pair.0, c.args.pair.1) in
    c.contains_key.ensures
    ∙ ap (λ (o : Option ℤ). is_some o) (sym (get-lookup p c.self.inside.weights.entries))
    ∙ ap (λ (g : Graph). is_some (finite.get g.weights p)) c.self.view_is
