use Rattle.std.proofs.Common.{pos, replicate, ap, ◌∙◌}
use Rattle.std.specs.FinMap as finite
use Rattle.bolt_base.specs.Graph.{Graph, Pair}
use Rattle.bolt_make.proofs.EdgeLemmas.{from_entries-remove}
use Rattle.bolt_make.proofs.made_graph.MadeGraph.cut.Goals as goal

pub returns : goal.returns
returns c =
    let p : Pair = (c.args.pair.0, c.args.pair.1) in
    let left = from_entries-remove p c.self.inside.weights.entries c.remove-weight.new.self.entries
    c.remove-weight.ensures.updates.0 in
    (λ j. record { attrs = replicate c.self.inside.vertices (pos 0); weights = left j })
    ∙ ap (λ (g : Graph). record g { weights = finite.remove g.weights p }) c.self.view_is
